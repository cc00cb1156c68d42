use Rattle.std.proofs.Common.{Some, ap, sym, ◌∙◌}
use Rattle.std.specs.Option.{option_map}
use Rattle.std.specs.Range.Bound.{bound_map}
use Rattle.std.specs.declared.ops.Bound.{Bound}
use Rattle.version_ranges.specs.Intervals.{interval_of, upper_after}
use Rattle.version_ranges.proofs.IntervalLaws.{are_intervals}
use Rattle.version_ranges.proofs.SpanLaws.{span_is}
use Rattle.version_ranges.proofs.ranges.Ranges.bounding_range.Goals as goal

pub returns-in_err-lower-clause-span : goal.returns-in_err-lower-clause-span
returns-in_err-lower-clause-span g c =
    let s = c.args.self.now.cuts in
    ap (option_map interval_of) c.from_residual.ensures ∙ ap (option_map (λ (l : Bound g.row.T.Denot). (l, upper_after s.rest.items))) c.in_err-lower.ensures ∙ sym (span_is s.first s.rest.items c.args.self.now.merged)

pub returns-in_err-lower-clause-intervals : goal.returns-in_err-lower-clause-intervals
returns-in_err-lower-clause-intervals g c = are_intervals g.met.T.Ord.total c.args.self.now c.args.self.now.cuts.ascending

pub returns-clause-span : goal.returns-clause-span
returns-clause-span g c =
    let s = c.args.self.now.cuts in
    ap (λ u. Some (bound_map (λ v. v.now) c.in_ok-lower.lower, u)) c.last_upper.ensures ∙ ap (option_map (λ l. (l, upper_after s.rest.items))) c.in_ok-lower.ensures
    ∙ sym (span_is s.first s.rest.items c.args.self.now.merged)

pub returns-clause-intervals : goal.returns-clause-intervals
returns-clause-intervals g c = are_intervals g.met.T.Ord.total c.args.self.now c.args.self.now.cuts.ascending
