use Rattle.marker_graph.proofs.TextLaws.{more_nodes}
use Rattle.marker_graph.proofs.interner.Interner.expression.Goals as goal

pub invariant_of-self : goal.invariant_of-self
invariant_of-self c = more_nodes _ _ _ c.self.invariant (c.expression.ensures.rules c.self.invariant.kept.nodes) c.expression.ensures.kept
