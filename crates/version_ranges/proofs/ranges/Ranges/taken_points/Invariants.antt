use Rattle.std.proofs.Common.{◌≡◌, Bool, true}
use Rattle.version_ranges.specs.Bounds.{IsKeptByClones, all_bounds}
use Rattle.version_ranges.specs.Sweep.{cuts_left, overlay, steps_left}
use Rattle.version_ranges.specs.Taken.{takes}
use Rattle.version_ranges.specs.Cut.{cut_cmp}
use Rattle.version_ranges.proofs.BoundLaws.{passes}
use Rattle.version_ranges.proofs.Combines.{Combined}
use Rattle.version_ranges.proofs.PointLaws.{cut_total}
use Rattle.version_ranges.proofs.ranges.Ranges.taken_points.Given as goal

abbrev pub invariant-loop-cut : goal.invariant-loop-cut
invariant-loop-cut g l = record {
  combined : Combined (cut_total g.met.T.Ord.total) (takes l.taken) l.first l.inside l.rest.items
      (steps_left g.T.Ord.cmp l.sweep)
      (overlay (cut_cmp g.T.Ord.cmp) l.self.cuts.first l.self.cuts.rest.items l.other.cuts.first l.other.cuts.rest.items);
  bounds : (test : g.row.T.Denot → Bool) → IsKeptByClones g.T.Clone.is_clone test → all_bounds test l.self ≡ true → all_bounds test l.other ≡ true →
      (passes (λ c. test c.value) l.rest.items ≡ true) × (passes (λ c. test c.value) (steps_left g.T.Ord.cmp l.sweep) ≡ true);
}

abbrev pub decreases-loop-cut : goal.decreases-loop-cut
decreases-loop-cut g l = cuts_left l.sweep
