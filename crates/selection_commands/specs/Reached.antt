-- The subtrees of an id that the environments of a target lead to.
use Rattle.std.specs.Prelude.{◌≡◌, ◌⊎◌, ℕ, Bool, List, Some, slice_get}
use Rattle.marker_environment.specs.Valuation.{Valuation}
use Rattle.marker_diagrams.specs.declared.node_id.NodeId.{NodeId}
use Rattle.marker_diagrams.specs.Diagram.{IsHeld, node_of, truth}
use Rattle.marker_nodes.specs.Node.{Node, markers}
use Rattle.marker_walks.specs.Subtrees.{Has, child_at}
use Rattle.selection_commands.specs.declared.target.Target.{Target}
use Rattle.selection_commands.specs.Target.{Agrees}
use Rattle.selection_commands.specs.Truth.{MayBe}

-- an id has the same truth in the target as another one
pub record IsSettled (target : Target) (nodes : List Node) (id settled : NodeId) : Type 0 where
  pub held : IsHeld nodes settled
  pub same : (v : Valuation) → Agrees target v
      → truth markers nodes id v ≡ truth markers nodes settled v

-- The list grew at its end by children of a node that environments of the target lead to, and has
-- them all.
pub record AddsReached (target : Target) (n : Node) (parent : NodeId) (old new : List NodeId) :
    Type 0 where
  pub stays : (i : ℕ) (id : NodeId) → slice_get old i ≡ Some id → slice_get new i ≡ Some id
  pub each : (i : ℕ) (id : NodeId) → slice_get new i ≡ Some id
      → Has old id ⊎ ((v : Valuation) × Agrees target v × (id ≡ child_at n parent v))
  pub all : (v : Valuation) → Agrees target v → Has new (child_at n parent v)

-- The list has the id, and with each id the children that environments of the target lead to; what
-- one of its ids may be, the id may be.
pub record AreReached (target : Target) (nodes : List Node) (id : NodeId) (ids : List NodeId) :
    Type 0 where
  pub first : Has ids id
  pub held : (i : ℕ) (u : NodeId) → slice_get ids i ≡ Some u → IsHeld nodes u
  pub leads : (i : ℕ) (u : NodeId) (b : Bool) → slice_get ids i ≡ Some u
      → MayBe target (truth markers nodes u) b → MayBe target (truth markers nodes id) b
  pub closed : (i : ℕ) (u : NodeId) (n : Node) (v : Valuation) → slice_get ids i ≡ Some u
      → node_of nodes u ≡ Some n → Agrees target v → Has ids (child_at n u v)
