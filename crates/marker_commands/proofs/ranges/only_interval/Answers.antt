use Rattle.std.proofs.Common.{◌∙◌, ◌∷◌, sym, ap}
use Rattle.version_ranges.specs.Intervals.{interval_of}
use Rattle.marker_commands.proofs.RangeLaws.{none_left, only_one}
use Rattle.marker_commands.proofs.ranges.only_interval.Goals as goal

pub returns : goal.returns
returns c = λ p.
    let none = none_left _ c.next-2.result (sym c.is_some.ensures ∙ c.if-is_some.false) c.next-2.ensures.steps in
    let one = sym c.iter-intervals.ensures.items ∙ c.in-Some.ensures.steps ∙ ap (λ l. interval_of (c.in-Some.lower, c.in-Some.upper) ∷ l) none.0 in
    rw (c.in_ok-lower.ensures, c.in_ok-upper.ensures) (only_one c.args.set.now _ _ c.iter-intervals.ensures.intervals one p)
