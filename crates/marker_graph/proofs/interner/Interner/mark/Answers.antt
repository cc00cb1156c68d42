use Rattle.marker_graph.specs.Mark.{IsMarkOf}
use Rattle.std.proofs.Common.{subst}
use Rattle.marker_graph.proofs.interner.Interner.mark.Goals as goal

pub returns : goal.returns
returns c =
    subst (λ x. IsMarkOf x record { nodes = c.len.result; known = c.known.result }) c.self.view_is
    (record { nodes = c.len.ensures; known = c.known.ensures; within = c.self.invariant.kept.within })
