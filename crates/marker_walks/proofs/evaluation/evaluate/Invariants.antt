use Rattle.std.proofs.Common.{◌≡◌}
use Rattle.marker_environment.specs.Environment.{valuation_of, values_of}
use Rattle.marker_diagrams.specs.Id.{place_of}
use Rattle.marker_diagrams.specs.Diagram.{IsHeld, truth}
use Rattle.marker_nodes.specs.Node.{markers}
use Rattle.marker_walks.proofs.evaluation.evaluate.Given as goal

abbrev pub invariant-loop-node : goal.invariant-loop-node
invariant-loop-node l = record {
  held : IsHeld l.nodes l.at;
  same : truth markers l.nodes l.at (valuation_of (values_of l.environment) l.extras) ≡ truth markers l.nodes l.initial.at (valuation_of (values_of l.environment) l.extras);
}

abbrev pub decreases-loop-node : goal.decreases-loop-node
decreases-loop-node l = place_of l.at
