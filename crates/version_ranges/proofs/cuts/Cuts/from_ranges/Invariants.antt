use Rattle.std.proofs.Common.{◌≡◌, Bool, true, ◌++◌, length}
use Rattle.std.specs.Vec.Iter.{into_iter_items}
use Rattle.version_ranges.specs.Bounds.{all_bounds}
use Rattle.version_ranges.specs.Cut.{cut_cmp}
use Rattle.version_ranges.proofs.BoundLaws.{passes}
use Rattle.version_ranges.proofs.StepLaws.{Alike}
use Rattle.version_ranges.proofs.Picks.{picked}
use Rattle.version_ranges.proofs.cuts.Cuts.from_ranges.Given as goal

abbrev pub invariant-loop-cut : goal.invariant-loop-cut
invariant-loop-cut g l = record {
  alike : Alike (cut_cmp g.T.Ord.cmp) (λ a b. g.V.PartialEq.eq a b ≡ true) (l.rest.items ++ picked l.fn.inside l.fn.outside (into_iter_items l.steps)) (picked l.fn.inside l.fn.outside l.fn.ranges.cuts.rest.items);
  bounds : (test : g.row.T.Denot → Bool) → all_bounds test l.fn.ranges ≡ true → (passes (λ c. test c.value) l.rest.items ≡ true) × (passes (λ c. test c.value) (into_iter_items l.steps) ≡ true);
}

abbrev pub decreases-loop-cut : goal.decreases-loop-cut
decreases-loop-cut g l = length (into_iter_items l.steps)
