-- The conjunction of two ids.
use Rattle.std.specs.Prelude.{◌≡◌, ◌&&◌, ◌⊎◌, List}
use Rattle.marker_environment.specs.Valuation.{Valuation}
use Rattle.marker_diagrams.specs.declared.node_id.NodeId.{NodeId}
use Rattle.marker_diagrams.specs.declared.node_id.TheConstants.NodeId.{TRUE, FALSE}
use Rattle.marker_diagrams.specs.Id.{opposite}
use Rattle.marker_diagrams.specs.Diagram.{IsAfter, IsHeld, truth}
use Rattle.marker_nodes.specs.Variable.{Variable}
use Rattle.marker_nodes.specs.Node.{Node, markers}

-- the id means the conjunction of two, and depends only on their variables
pub record IsAnd (nodes : List Node) (a b t : NodeId) : Type 0 where
  pub held : IsHeld nodes t
  pub means : (v : Valuation) → truth markers nodes t v
      ≡ (truth markers nodes a v && truth markers nodes b v)
  pub after : (x : Variable) → IsAfter markers nodes x a → IsAfter markers nodes x b
      → IsAfter markers nodes x t

-- so it is in each list of nodes that has the two
abbrev pub IsAndEverywhere : NodeId → NodeId → NodeId → Type 0
IsAndEverywhere a b t = (nodes : List Node) → IsHeld nodes a → IsHeld nodes b → IsAnd nodes a b t

abbrev pub IsConstant : NodeId → Type 0
IsConstant t = (t ≡ TRUE) ⊎ (t ≡ FALSE)

-- the conjunction of two ids needs no node: one is a constant, they are the same, or one is the
-- negation of the other
abbrev pub IsShort : NodeId → NodeId → Type 0
IsShort a b = IsConstant a ⊎ (IsConstant b ⊎ ((a ≡ b) ⊎ (a ≡ opposite b)))
