-- The markers before the index are drawn.
use Rattle.std.proofs.Common.{◌≡◌, length}
use Rattle.marker_drawings.proofs.WalkLaws.{Walks}
use Rattle.marker_drawings.proofs.drawing.draw.Given as goal

abbrev pub invariant-loop-index : goal.invariant-loop-index
invariant-loop-index l = record {
  walks : Walks l.interner l.fn.tree l.found.keys l.root l.nodes.items;
  count : length l.nodes.items ≡ l.index;
}
