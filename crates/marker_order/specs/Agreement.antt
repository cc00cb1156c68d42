-- What is known of two tables: how far they agree, from their oldest node on, and which diagrams
-- are equal.
use Rattle.std.specs.Prelude.{◌≡◌, ℕ, ◌+◌, ◌<◌, All, List, Some}
use Rattle.std.specs.declared.cmp.Ordering.{Ordering}
use Rattle.std.specs.declared.cmp.Ordering.TheVariants.{Equal}
use Rattle.marker_diagrams.specs.declared.node_id.NodeId.{NodeId}
use Rattle.marker_diagrams.specs.Diagram.{node_at, AreSame, IsStore}
use Rattle.marker_nodes.specs.Node.{Node, markers}
use Rattle.marker_order.specs.Order.{diagram_cmp}

-- the nodes of both tables satisfy the rules of diagrams
pub record AreStores (a b : List Node) : Type 0 where
  pub left : IsStore markers a
  pub right : IsStore markers b

-- two tables have nodes at an index, counted from the oldest, that are the same
pub record AgreeAt (a b : List Node) (index : ℕ) : Type 0 where
  pub left : Node
  pub right : Node
  pub stands : node_at a (index + 1) ≡ Some left
  pub stands_too : node_at b (index + 1) ≡ Some right
  pub same : AreSame markers left right

-- two tables agree at each index below a number
abbrev pub AgreeUpTo : List Node → List Node → ℕ → Type 0
AgreeUpTo a b agreed = (index : ℕ) → index < agreed → AgreeAt a b index

-- the diagrams of a pair of ids are equal
abbrev pub IsEqual : List Node → List Node → NodeId × NodeId → Type 0
IsEqual a b pair = diagram_cmp (a, pair.0) (b, pair.1) ≡ Equal

-- those of each pair are
abbrev pub AreEqual : List Node → List Node → List (NodeId × NodeId) → Type 0
AreEqual a b pairs = All (IsEqual a b) pairs

-- two tables agree at each index below a number, and the diagrams of each pair are equal
pub record AreKnown (a b : List Node) (size : ℕ) (pairs : List (NodeId × NodeId)) : Type 0 where
  pub agreed : AgreeUpTo a b size
  pub equal : AreEqual a b pairs

-- the diagrams of a pair are equal in all tables in which those of each of these pairs are
abbrev pub IsEqualWith : List (NodeId × NodeId) → NodeId × NodeId → Type 0
IsEqualWith pairs pair = (a b : List Node) → AreEqual a b pairs → IsEqual a b pair

-- the diagrams of the new pairs are equal in all tables in which those of the old ones and of this
-- pair are
abbrev pub RemainEqualWith : NodeId × NodeId → List (NodeId × NodeId) → List (NodeId × NodeId)
    → Type 0
RemainEqualWith pair old new =
    (a b : List Node) → IsEqual a b pair → AreEqual a b old → AreEqual a b new

-- this is the order of two diagrams
abbrev pub IsOrderOf : List Node × NodeId → List Node × NodeId → Ordering → Type 0
IsOrderOf d e order = order ≡ diagram_cmp d e
