-- A variable with a child for each piece, ready to be placed.
use Rattle.marker_environment.specs.Valuation.{Valuation}
use Rattle.marker_diagrams.specs.declared.node_id.NodeId.{NodeId}
use Rattle.marker_diagrams.specs.Id.{is_negated, signed_id}
use Rattle.marker_nodes.specs.declared.choice.Choice.{Choice}
use Rattle.marker_nodes.specs.Variable.{Variable}
use Rattle.marker_nodes.specs.Branches.{variable, value_at}

-- the variable
abbrev pub asked : Choice → Variable
asked choice = variable choice.node

-- the child that a valuation selects
abbrev pub chosen : Choice → Valuation → NodeId
chosen choice v = signed_id (is_negated choice.first) (value_at choice.node v)
