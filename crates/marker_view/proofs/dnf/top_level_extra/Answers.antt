use Rattle.std.proofs.Common.{ap}
use Rattle.marker_words.specs.declared.operator.ExtraOperator.TheVariants as operators
use Rattle.marker_parts.specs.Expression.{extra, extra_of}
use Rattle.marker_view.proofs.dnf.top_level_extra.Goals as goal

pub returns-in_ok-clone-in-Some : goal.returns-in_ok-clone-in-Some
returns-in_ok-clone-in-Some c =
    (extra_of c.in-Some.name.now, ap (λ x. extra operators.Equal x) c.in_ok-clone-in-Some.ensures.cases, c.in-Some.ensures.found)
