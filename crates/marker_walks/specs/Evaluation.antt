-- What an id is in an environment.
use Rattle.std.specs.Prelude.{ℕ, Bool, List}
use Rattle.marker_environment.specs.declared.environment.MarkerEnvironment.{MarkerEnvironment}
use Rattle.marker_environment.specs.Environment.{valuation_of, values_of}
use Rattle.marker_diagrams.specs.declared.node_id.NodeId.{NodeId}
use Rattle.marker_diagrams.specs.Diagram.{truth}
use Rattle.marker_nodes.specs.Node.{Node, markers}

-- whether the id is true in the environment with these extras
abbrev pub truth_in : List Node → NodeId → MarkerEnvironment → List (List ℕ) → Bool
truth_in nodes t environment extras =
    truth markers nodes t (valuation_of (values_of environment) extras)
