-- The conjunction of two diagrams by those of their children.
use Rattle.std.specs.Prelude.{List}
use Rattle.marker_environment.specs.Valuation.{Valuation}
use Rattle.marker_diagrams.specs.declared.node_id.NodeId.{NodeId}
use Rattle.marker_nodes.specs.declared.choice.Choice.{Choice}
use Rattle.marker_nodes.specs.And.{IsAnd}
use Rattle.marker_nodes.specs.Choice.{asked, chosen}
use Rattle.marker_nodes.specs.Node.{Node}
use Rattle.marker_nodes.specs.Side.{branch, IsFirst}

-- a choice by the first variable of two ids, among the conjunctions of their children there
pub record Joins (nodes : List Node) (a b : NodeId) (choice : Choice) : Type 0 where
  pub first : IsFirst nodes (asked choice) a b
  pub ands : (v : Valuation)
      → IsAnd nodes (branch nodes (asked choice) a v) (branch nodes (asked choice) b v)
      (chosen choice v)
