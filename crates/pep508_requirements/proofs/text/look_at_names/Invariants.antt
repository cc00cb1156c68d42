use Rattle.std.proofs.Common.{length}
use Rattle.std.specs.List.{AllByRecursion}
use Rattle.requirement_words.specs.Text.{IsNormal}
use Rattle.pep508_requirements.proofs.text.look_at_names.Given as goal

abbrev pub invariant-loop-names : goal.invariant-loop-names
invariant-loop-names l = record {
  all : AllByRecursion IsNormal l.names → AllByRecursion IsNormal l.initial.names;
}

abbrev pub decreases-loop-names : goal.decreases-loop-names
decreases-loop-names l = length l.names
