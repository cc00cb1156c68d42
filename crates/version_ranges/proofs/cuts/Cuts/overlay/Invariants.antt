use Rattle.std.proofs.Common.{◌≡◌, Bool, true, ◌++◌, ◌+◌, ◌≤◌, vec_len}
use Rattle.version_ranges.specs.Bounds.{IsKeptByClones, all_cuts}
use Rattle.version_ranges.specs.Sweep.{cuts_left, overlay, steps_left}
use Rattle.version_ranges.specs.Cut.{cut_cmp}
use Rattle.version_ranges.proofs.BoundLaws.{passes}
use Rattle.version_ranges.proofs.StepLaws.{Alike}
use Rattle.version_ranges.proofs.Sides.{BothSame}
use Rattle.version_ranges.proofs.cuts.Cuts.overlay.Given as goal

abbrev pub invariant-loop-cut : goal.invariant-loop-cut
invariant-loop-cut g l = record {
  alike : Alike (cut_cmp g.T.Ord.cmp) (BothSame g.V.PartialEq.eq g.W.PartialEq.eq)
      (l.rest.items ++ steps_left g.T.Ord.cmp l.sweep)
      (overlay (cut_cmp g.T.Ord.cmp) l.self.first l.self.rest.items l.other.first l.other.rest.items);
  pieces : vec_len l.rest + cuts_left l.sweep ≤ vec_len l.self.rest + vec_len l.other.rest;
  comparisons : l.comparisons + cuts_left l.sweep ≤ vec_len l.self.rest + vec_len l.other.rest;
  bounds : (test : g.row.T.Denot → Bool) → IsKeptByClones g.T.Clone.is_clone test → all_cuts test l.self ≡ true → all_cuts test l.other ≡ true →
      (passes (λ c. test c.value) l.rest.items ≡ true) × (passes (λ c. test c.value) (steps_left g.T.Ord.cmp l.sweep) ≡ true);
}

abbrev pub decreases-loop-cut : goal.decreases-loop-cut
decreases-loop-cut g l = cuts_left l.sweep
