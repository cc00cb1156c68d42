-- The first of the children are in the list.
use Rattle.marker_walks.specs.Subtrees.{AddsFirst}
use Rattle.marker_walks.proofs.subtree.add_ids.Given as goal

abbrev pub invariant-loop-index : goal.invariant-loop-index
invariant-loop-index l = AddsFirst l.parent l.children l.index l.fn.found.keys l.found.keys
