-- What is shown so far, of markers that stay.
use Rattle.std.proofs.Common.{take}
use Rattle.marker_graph.specs.Contents.{IsKept, truth}
use Rattle.marker_witnesses.specs.Sides.{ShowsEach}
use Rattle.marker_witnesses.proofs.sides.witnesses.Given as goal

abbrev pub invariant-loop-side : goal.invariant-loop-side
invariant-loop-side l = record {
  kept : IsKept l.fn.interner l.interner;
  shown : ShowsEach (truth l.fn.interner l.fn.first) (truth l.fn.interner l.fn.second) (take l.side-index l.side-items) l.shown.items;
}
