use Rattle.marker_graph.proofs.TextLaws.{more_nodes}
use Rattle.marker_graph.proofs.interner.Interner.assume_python_range.Goals as goal

pub invariant_of-self : goal.invariant_of-self
invariant_of-self c = more_nodes _ _ _ c.self.invariant c.assume_python_range.ensures.rules c.assume_python_range.ensures.kept
