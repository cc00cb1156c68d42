use Rattle.std.proofs.Common.{◌<◌, length, subst, sym, ◌∙◌}
use Rattle.pep440_rs.proofs.Complements.{complements, python_complements}
use Rattle.pep440_rs.proofs.Equals.{comparisons_same, specifiers_same}
use Rattle.marker_terms.proofs.TermLaws.{negated_hold}
use Rattle.marker_terms.proofs.term.is_negated_specifier.Goals as goal

pub returns : goal.returns
returns c e =
    negated_hold c.args.specifier.now c.args.other.now
    (subst (λ v. 0 < length v.release) c.version.ensures.value c.normal_text_reads_back.ensures.valid.some)
    (subst (λ v. 0 < length v.release) c.version-2.ensures.value c.normal_text_reads_back-2.ensures.valid.some)
    specifiers_same comparisons_same
    (λ o n r p. complements r p o n) (λ o n r p. python_complements r p o n)
    (c.has_negated_operator.ensures c.if-not-has_negated_operator.false)
    (sym c.has_equal_version.ensures ∙ e)
    (c.counts_alike.ensures c.if-not-counts_alike.false)
