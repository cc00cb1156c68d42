-- The list has subtrees, each once, and the children of those before the index.
use Rattle.marker_walks.proofs.WalkLaws.{Walks}
use Rattle.marker_walks.proofs.subtree.subtrees.Given as goal

abbrev pub invariant-loop-index : goal.invariant-loop-index
invariant-loop-index l = Walks l.table l.fn.id l.index l.found.keys
