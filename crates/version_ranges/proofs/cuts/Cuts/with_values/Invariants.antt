use Rattle.std.proofs.Common.{◌≡◌, ◌++◌, length}
use Rattle.std.specs.Vec.Iter.{into_iter_items}
use Rattle.version_ranges.specs.Steps.{last_value}
use Rattle.version_ranges.specs.Sweep.{merge_steps, relabel}
use Rattle.version_ranges.proofs.cuts.Cuts.with_values.Given as goal

abbrev pub invariant-loop-cut : goal.invariant-loop-cut
invariant-loop-cut g l =
    (length (into_iter_items l.values) ≡ length (into_iter_items l.steps))
    × (l.rest.items ++ merge_steps g.W.PartialEq.eq (last_value l.first l.rest.items) (relabel (into_iter_items l.steps) (into_iter_items l.values))
    ≡ merge_steps g.W.PartialEq.eq l.first (relabel (into_iter_items l.initial.steps) (into_iter_items l.initial.values)))

abbrev pub decreases-loop-cut : goal.decreases-loop-cut
decreases-loop-cut g l = length (into_iter_items l.steps)
