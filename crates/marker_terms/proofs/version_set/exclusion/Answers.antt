use Rattle.std.proofs.Common.{sym, ◌∙◌}
use Rattle.pep440_specifier.specs.Bounds.{specifiers_left}
use Rattle.pep440_rs.proofs.Specified.{specifiers-mean}
use Rattle.marker_terms.proofs.PlainLaws.{exclusion_printable}
use Rattle.marker_terms.proofs.SetLaws.{excluded_range, none_left}
use Rattle.marker_terms.proofs.version_set.exclusion.Goals as goal

pub returns-clause-means : goal.returns-clause-means
returns-clause-means c =
    excluded_range c.inequality.result c.in-Some.specifier c.args.bounds.0 c.args.bounds.1 (specifiers_left c.next.new.self) (sym c.in_ok-specifiers.ensures ∙ c.in-Some.ensures.steps)
    (none_left (λ s. s) c.next-2.result (specifiers_left c.next.new.self) (specifiers_left c.next-2.new.self) (sym c.is_some.ensures ∙ c.if-is_some.false) c.next-2.ensures.steps)
    (λ lower upper p. specifiers-mean p lower upper) c.inequality.ensures.means

pub returns-clause-printable : goal.returns-clause-printable
returns-clause-printable c =
    exclusion_printable c.inequality.result c.in-Some.specifier c.args.bounds.0 c.args.bounds.1 (specifiers_left c.next.new.self) (sym c.in_ok-specifiers.ensures ∙ c.in-Some.ensures.steps)
    (c.range_specifiers_are_printable.ensures c.args.bounds.0) c.inequality.ensures.printable
