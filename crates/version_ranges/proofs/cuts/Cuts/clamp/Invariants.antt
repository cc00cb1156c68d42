use Rattle.std.proofs.Common.{◌≡◌, Bool, true}
use Rattle.version_ranges.specs.Bounds.{IsKeptByClones, all_cuts}
use Rattle.version_ranges.specs.Clamp.{bound_of}
use Rattle.version_ranges.proofs.BoundLaws.{passes}
use Rattle.version_ranges.proofs.ClampLaws.{Clamps, begin_place, end_place}
use Rattle.version_ranges.proofs.cuts.Cuts.clamp.Given as goal

abbrev pub invariant-loop-step : goal.invariant-loop-step
invariant-loop-step g l = record {
  clamps : Clamps g.T.Ord.cmp g.V.PartialEq.eq (begin_place g.T.Ord.cmp (bound_of l.lower)) (end_place g.T.Ord.cmp (bound_of l.upper)) l.first l.self.first l.rest.items l.steps l.self.rest.items l.step-index;
  bounds : (test : g.row.T.Denot → Bool) → IsKeptByClones g.T.Clone.is_clone test → all_cuts test l.self ≡ true → passes (λ c. test c.value) l.rest.items ≡ true;
}
