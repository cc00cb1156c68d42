use Rattle.std.proofs.Common.{◌≡◌, Bool, true}
use Rattle.std.specs.List.{list_all}
use Rattle.version_ranges.specs.Bounds.{IsKeptByClones, all_bounds, all_cuts}
use Rattle.version_ranges.proofs.Collected.{Kept}
use Rattle.version_ranges.proofs.cuts.Cuts.gather.Given as goal

abbrev pub invariant-loop-step : goal.invariant-loop-step
invariant-loop-step g l = record {
  kept : Kept g.T.Ord.cmp g.V.PartialEq.eq l.fn.self.first l.step-items l.step-index l.places.keys l.pairs.items l.current;
  bounds : (test : g.row.T.Denot → Bool) → IsKeptByClones g.T.Clone.is_clone test → all_cuts test l.fn.self ≡ true → list_all (λ q. all_bounds test q.1) l.pairs.items ≡ true;
}
