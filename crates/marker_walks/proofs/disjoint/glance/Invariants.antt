use Rattle.marker_diagrams.specs.declared.node_id.TheConstants.NodeId.{FALSE}
use Rattle.marker_nodes.specs.Pairs.{pairs_left}
use Rattle.marker_walks.proofs.Disjoints.{WalksBut}
use Rattle.marker_walks.proofs.disjoint.glance.Given as goal

abbrev pub invariant-loop-left : goal.invariant-loop-left
invariant-loop-left l = WalksBut l.nodes l.a l.b (FALSE, FALSE) (pairs_left l.left-iterator)
