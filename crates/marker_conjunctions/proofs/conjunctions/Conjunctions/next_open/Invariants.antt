use Rattle.std.proofs.Common.{List}
use Rattle.marker_diagrams.specs.declared.node_id.NodeId.{NodeId}
use Rattle.marker_nodes.specs.Node.{Node}
use Rattle.marker_conjunctions.specs.Step.{ArePairs}
use Rattle.marker_conjunctions.proofs.conjunctions.Conjunctions.next_open.Given as goal

abbrev pub invariant-loop-left : goal.invariant-loop-left
invariant-loop-left l = (nodes : List Node) (a b : NodeId) → ArePairs nodes a b l.initial.pending.items → ArePairs nodes a b l.pending.items

abbrev pub decreases-loop-left : goal.decreases-loop-left
decreases-loop-left l = goal.left-loop-left l
