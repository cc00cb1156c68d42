use Rattle.std.proofs.Common.{◌≡◌, Bool, true}
use Rattle.version_ranges.specs.Bounds.{IsKeptByClones}
use Rattle.version_ranges.specs.Cut.{cut_cmp}
use Rattle.version_ranges.specs.Lent.{all_lent_cuts}
use Rattle.version_ranges.specs.Sweep.{cuts_left, overlay, steps_left}
use Rattle.version_ranges.proofs.BoundLaws.{passes}
use Rattle.version_ranges.proofs.Labels.{Labelled}
use Rattle.version_ranges.proofs.PointLaws.{cut_total}
use Rattle.version_ranges.proofs.lent.CutsRef.pairs_with_values.Given as goal

abbrev pub invariant-loop-cut : goal.invariant-loop-cut
invariant-loop-cut g l = record {
  labelled : Labelled (cut_total g.met.T.Ord.total) g.met.X.Eq.laws l.first l.last l.rest.items
      (steps_left g.T.Ord.cmp l.sweep) l.later
      (overlay (cut_cmp g.T.Ord.cmp) l.self.first.now l.self.rest.now l.other.first.now l.other.rest.now) l.initial.later;
  bounds : (test : g.row.T.Denot → Bool) → IsKeptByClones g.T.Clone.is_clone test → all_lent_cuts test l.self ≡ true → all_lent_cuts test l.other ≡ true →
      (passes (λ c. test c.value) l.rest.items ≡ true) × (passes (λ c. test c.value) (steps_left g.T.Ord.cmp l.sweep) ≡ true);
}

abbrev pub decreases-loop-cut : goal.decreases-loop-cut
decreases-loop-cut g l = cuts_left l.sweep
