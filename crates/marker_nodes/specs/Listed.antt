-- Lists that have a value for each piece.
use Rattle.std.specs.Prelude.{◌≡◌, ℕ, EachIndex, List, Some, slice_get}
use Rattle.std.specs.declared.cmp.Ordering.{Ordering}
use Rattle.version_ranges.specs.declared.cuts.Cuts.{Cuts}
use Rattle.version_ranges.specs.Cuts.{piece_of, value_of}
use Rattle.marker_environment.specs.Valuation.{Valuation}
use Rattle.marker_diagrams.specs.declared.node_id.NodeId.{NodeId}
use Rattle.marker_diagrams.specs.Diagram.{AreChildren, IsChoice}
use Rattle.marker_diagrams.specs.Id.{is_negated, signed_id}
use Rattle.marker_nodes.specs.declared.node.Branches.{Branches}
use Rattle.marker_nodes.specs.Branches.{variable}
use Rattle.marker_nodes.specs.Node.{Node, child_at, listed_child, markers}

module _ {A V : Type 0} where
  -- the list has the value of each, at the index of its piece
  abbrev pub ListsEach : (A → ℕ) → (A → V) → List V → Type 0
  ListsEach piece value values = (a : A) → slice_get values (piece a) ≡ Some (value a)

  -- each value in the list is that of one of them
  abbrev pub ListsOnly : (A → V) → List V → Type 0
  ListsOnly value values = (i : ℕ) (w : V) → slice_get values i ≡ Some w → (a : A) × (value a ≡ w)

module _ {T V : Type 0} {a : _} {b : _} {c : _} where
  -- the list has the value of each point, at the index of its piece
  abbrev pub ListsValues : (T → T → Ordering) → Cuts T V a b c → List V → Type 0
  ListsValues cmp cuts values = ListsEach (piece_of cmp cuts) (value_of cmp cuts) values

-- each valuation takes the child that the list has for its piece
abbrev pub TakesListed : (Valuation → ℕ) → List NodeId → (Valuation → NodeId) → Type 0
TakesListed piece children child = (v : Valuation) → child v ≡ child_at children (piece v)

-- the new children are the old ones, negated if the parent is a negation
abbrev pub AreSignedBy : NodeId → List NodeId → List NodeId → Type 0
AreSignedBy parent old new =
    EachIndex new (λ k. child_at new k ≡ signed_id (is_negated parent) (child_at old k))

module _ {V : Type 0} (nodes : List Node) (branches : Branches V) (children : List NodeId) where
  -- the nodes have the children listed for the pieces, which depend only on later variables
  abbrev pub HasChildrenFor : Type 0
  HasChildrenFor = AreChildren markers nodes (variable branches) (listed_child branches children)

  -- the id means at each valuation what the child listed for its piece means
  abbrev pub IsPlacedAs : NodeId → Type 0
  IsPlacedAs t = IsChoice markers nodes (variable branches) (listed_child branches children) t
