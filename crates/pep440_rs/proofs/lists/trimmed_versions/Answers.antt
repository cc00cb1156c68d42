use Rattle.std.proofs.Common.{ap, ◌∙◌}
use Rattle.std.specs.List.{list_all}
use Rattle.pep440_rs.specs.Intervals.{is_trimmed}
use Rattle.pep440_rs.proofs.Listed.{listed-more, trimmed-more}
use Rattle.pep440_rs.proofs.Trimmed.{trimmed-each}
use Rattle.pep440_rs.proofs.lists.trimmed_versions.Goals as goal

pub loop-version-preserved : goal.loop-version-preserved
loop-version-preserved c = record {
  value = trimmed-more c.loop-version.trimmed.items c.push.new.self.items c.args.versions.now c.loop-version.version-index c.in_ok-without_trailing_zeros.field-0 c.version-item.result
      c.in_ok-push.ensures.items c.loop-version-test.true c.version-item.is c.in_ok-without_trailing_zeros.ensures.value c.loop-version.invariant.value;
  same = λ p. listed-more c.loop-version.trimmed.items c.push.new.self.items c.args.versions.now c.loop-version.version-index c.in_ok-without_trailing_zeros.field-0 c.version-item.result p
      c.in_ok-push.ensures.items c.loop-version-test.true c.version-item.is c.in_ok-without_trailing_zeros.ensures.same (c.loop-version.invariant.same p);
}

pub returns-clause-trimmed : goal.returns-clause-trimmed
returns-clause-trimmed c = ap (list_all is_trimmed) c.loop-version.invariant.value ∙ trimmed-each _
