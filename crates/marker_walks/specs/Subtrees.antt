-- Lists of ids that children are added to.
use Rattle.std.specs.Prelude.{◌≡◌, ◌⊎◌, ℕ, ◌<◌, ◌≤◌, List, Some, length, slice_get}
use Rattle.marker_diagrams.specs.declared.node_id.NodeId.{NodeId}
use Rattle.marker_diagrams.specs.Id.{is_negated, signed_id}
use Rattle.marker_environment.specs.Valuation.{Valuation}
use Rattle.marker_nodes.specs.Branches.{value_at}
use Rattle.marker_nodes.specs.Node.{Node}

-- the list has the id
abbrev pub Has : List NodeId → NodeId → Type 0
Has ids id = (i : ℕ) × (slice_get ids i ≡ Some id)

-- no id is in the list twice
abbrev pub IsOnce : List NodeId → Type 0
IsOnce ids = (i j : ℕ) (id : NodeId) → slice_get ids i ≡ Some id → slice_get ids j ≡ Some id
    → i ≡ j

-- More ids than so many are such: a list has more of them, and none of them twice.
pub record AreMoreThan (most : ℕ) (P : NodeId → Type 0) : Type 0 where
  pub ids : List NodeId
  pub more : most < length ids
  pub each : (i : ℕ) (u : NodeId) → slice_get ids i ≡ Some u → P u
  pub once : IsOnce ids

-- the child of a node at a valuation, as that of the id whose node it is: negated where the id is
abbrev pub child_at : Node → NodeId → Valuation → NodeId
child_at n parent v = signed_id (is_negated parent) (value_at n v)

-- The list grew at its end by the first of these children, as those of the parent's id.
pub record AddsFirst (parent : NodeId) (children : List NodeId) (count : ℕ)
    (old new : List NodeId) : Type 0 where
  pub longer : length old ≤ length new
  pub stays : (i : ℕ) (id : NodeId) → slice_get old i ≡ Some id → slice_get new i ≡ Some id
  pub each : (i : ℕ) (id : NodeId) → slice_get new i ≡ Some id → Has old id
      ⊎ ((k : ℕ) × (c : NodeId) × (slice_get children k ≡ Some c)
      × (id ≡ signed_id (is_negated parent) c))
  pub some : (k : ℕ) (c : NodeId) → k < count → slice_get children k ≡ Some c
      → Has new (signed_id (is_negated parent) c)
  pub once : IsOnce old → IsOnce new

-- The list grew at its end by children of a node, and has them all.
pub record AddsChildren (n : Node) (parent : NodeId) (old new : List NodeId) : Type 0 where
  pub longer : length old ≤ length new
  pub stays : (i : ℕ) (id : NodeId) → slice_get old i ≡ Some id → slice_get new i ≡ Some id
  pub each : (i : ℕ) (id : NodeId) → slice_get new i ≡ Some id
      → Has old id ⊎ ((v : Valuation) × (id ≡ child_at n parent v))
  pub all : (v : Valuation) → Has new (child_at n parent v)
  pub once : IsOnce old → IsOnce new
