use Rattle.std.proofs.Common.{length}
use Rattle.std.specs.Vec.Iter.{into_iter_items}
use Rattle.version_ranges.specs.Cut.{cut_cmp}
use Rattle.version_ranges.proofs.StepLaws.{Alike}
use Rattle.version_ranges.proofs.SpotLaws.{spots}
use Rattle.std.proofs.Common.{◌++◌, ◌≡◌, Bool, true}
use Rattle.std.specs.List.{list_all}
use Rattle.version_ranges.specs.Bounds.{IsKeptByClones}
use Rattle.version_ranges.proofs.BoundLaws.{passes}
use Rattle.version_ranges.proofs.ranges.Ranges.from_points.Given as goal

abbrev pub invariant-loop-point : goal.invariant-loop-point
invariant-loop-point g l =
    record {
      alike : Alike (cut_cmp g.T.Ord.cmp) (λ a b. a ≡ b) (l.rest.items ++ spots (into_iter_items l.points)) (spots (into_iter_items l.initial.points));
      bounds : (test : g.row.T.Denot → Bool) → IsKeptByClones g.T.Clone.is_clone test → list_all test (into_iter_items l.initial.points) ≡ true →
          (passes (λ c. test c.value) l.rest.items ≡ true) × (list_all test (into_iter_items l.points) ≡ true);
    }

abbrev pub decreases-loop-point : goal.decreases-loop-point
decreases-loop-point g l = length (into_iter_items l.points)
