use Rattle.std.proofs.Common.{ap, ◌∙◌}
use Rattle.version_ranges.specs.Bounds.{passes_at}
use Rattle.version_ranges.specs.Clamp.{bound_of}
use Rattle.pep440_version.specs.Order.{version_cmp}
use Rattle.version_ranges.specs.Ranges.{contains_point}
use Rattle.pep440_rs.specs.Intervals.{HasTrimmedBounds, is_trimmed}
use Rattle.marker_simplifications.proofs.TrimLaws.{bound_trimmed, range_asked}
use Rattle.marker_simplifications.proofs.python.python_range.Goals as goal

pub returns-clause-asks : goal.returns-clause-asks
returns-clause-asks c =
    range_asked c.asks_version.new.nodes (bound_of c.args.lower) (bound_of c.args.upper) c.in_ok-lower.lower c.in_ok-upper.upper c.in_ok-lower.ensures c.in_ok-upper.ensures (contains_point version_cmp c.in_ok-range.range) c.in_ok-range.ensures.set
    c.asks_version.result c.asks_version.ensures.asks

pub asks_version-requires : goal.asks_version-requires
unfolding HasTrimmedBounds
asks_version-requires c =
    c.in_ok-range.ensures.bounds is_trimmed (ap (passes_at is_trimmed) c.in_ok-lower.ensures ∙ bound_trimmed (bound_of c.args.lower)) (ap (passes_at is_trimmed) c.in_ok-upper.ensures ∙ bound_trimmed (bound_of c.args.upper))
