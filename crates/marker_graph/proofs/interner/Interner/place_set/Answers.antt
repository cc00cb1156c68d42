use Rattle.marker_graph.proofs.TextLaws.{more_nodes}
use Rattle.marker_graph.proofs.interner.Interner.place_set.Goals as goal

pub invariant_of-self : goal.invariant_of-self
invariant_of-self c = more_nodes _ _ _ c.self.invariant (c.place.ensures.rules c.self.invariant.kept.nodes) c.place.ensures.kept
