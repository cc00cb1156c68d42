use Rattle.marker_nodes.specs.Pairs.{pairs_left}
use Rattle.marker_nodes.specs.Sides.{count, pair_at, piece, variable}
use Rattle.marker_conjunctions.proofs.StepLaws.{Walk}
use Rattle.marker_conjunctions.proofs.conjunctions.Conjunctions.look.Given as goal

abbrev pub invariant-loop-left : goal.invariant-loop-left
invariant-loop-left l = Walk l.nodes l.self.memo.entries l.a l.b (variable l.sides) (pair_at l.sides) (piece l.sides) (count l.sides) l.initial.pending.items l.pending.items (pairs_left l.left-iterator) l.next l.children.items
