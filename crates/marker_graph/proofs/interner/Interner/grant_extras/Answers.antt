use Rattle.marker_graph.proofs.TextLaws.{more_nodes}
use Rattle.marker_graph.proofs.interner.Interner.grant_extras.Goals as goal

pub invariant_of-self : goal.invariant_of-self
invariant_of-self g c = more_nodes _ _ _ c.self.invariant c.grant_extras.ensures.rules c.grant_extras.ensures.kept
