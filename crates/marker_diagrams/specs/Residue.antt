-- Subtrees of an id, and residues of a truth.
use Rattle.std.specs.Prelude.{◌≡◌, ◌≢◌, ℕ, Bool, List, Some, slice_get}
use Rattle.std.specs.Ordering.{is_lt}
use Rattle.marker_diagrams.specs.declared.node_id.NodeId.{NodeId}
use Rattle.marker_diagrams.specs.Id.{is_negated, signed_id}
use Rattle.marker_diagrams.specs.Diagram.{NodeKind, node_of, with_variable}

module _ {N X V : Type 0} (kind : NodeKind N X V) where
  -- a subtree of an id: the id itself, or a child of a subtree. The children of a negation are
  -- negated.
  pub data IsSubtree (nodes : List N) (t : NodeId) : NodeId → Type 0 where
    itself : IsSubtree nodes t t
    child : (s u : NodeId) (n : N) (v : V) → IsSubtree nodes t s → node_of nodes s ≡ Some n
        → u ≡ signed_id (is_negated s) (kind.pick n v) → IsSubtree nodes t u

  -- the valuation v, with every variable before x held at its value in s
  abbrev pub hold : X → V → V → V
  hold x s v = kind.mix (λ y. is_lt (kind.cmp y x)) s v

  -- g is the residue of the truth f at the variable x and the valuation s
  abbrev pub IsResidue : (V → Bool) → X → V → (V → Bool) → Type 0
  IsResidue f x s g = (v : V) → g v ≡ f (hold x s v)

  -- the truth f depends on the variable x: it differs at two valuations that differ only there
  abbrev pub DependsOn : (V → Bool) → X → Type 0
  DependsOn f x = (v w : V) × (f (with_variable kind x v w) ≢ f w)

  -- the list has the children of a node, and no others
  pub record AreChildrenOf (n : N) (children : List NodeId) : Type 0 where
    pub all : (v : V) → (i : ℕ) × (slice_get children i ≡ Some (kind.pick n v))
    pub each : (i : ℕ) (u : NodeId) → slice_get children i ≡ Some u → (v : V) × (kind.pick n v ≡ u)

-- the list has the ids that are such and no others, and none of them twice
pub record AreExactly (P : NodeId → Type 0) (ids : List NodeId) : Type 0 where
  pub all : (s : NodeId) → P s → (i : ℕ) × (slice_get ids i ≡ Some s)
  pub each : (i : ℕ) (s : NodeId) → slice_get ids i ≡ Some s → P s
  pub once : (i j : ℕ) (s : NodeId) → slice_get ids i ≡ Some s → slice_get ids j ≡ Some s → i ≡ j
