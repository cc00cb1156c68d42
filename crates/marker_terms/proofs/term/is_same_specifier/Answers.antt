use Rattle.std.proofs.Common.{◌<◌, length, subst, sym, ◌∙◌}
use Rattle.pep440_rs.proofs.Equals.{comparisons_same, specifiers_same}
use Rattle.marker_terms.proofs.TermLaws.{equal_hold}
use Rattle.marker_terms.proofs.term.is_same_specifier.Goals as goal

pub returns : goal.returns
returns c e =
    equal_hold c.args.specifier.now c.args.other.now
    (subst (λ v. 0 < length v.release) c.version.ensures.value c.normal_text_reads_back.ensures.valid.some)
    (subst (λ v. 0 < length v.release) c.version-2.ensures.value c.normal_text_reads_back-2.ensures.valid.some)
    specifiers_same comparisons_same
    (sym c.eq.ensures ∙ e)
