-- One step of a conjunction: which pairs of ids it waits for.
use Rattle.std.specs.Prelude.{◌≡◌, ⊤, ◌+◌, ◌<◌, ◌⊎◌, ◌++◌, true, IfSome, List, [], ◌∷◌, Option, is_some}
use Rattle.std.specs.Map.{lookup}
use Rattle.marker_diagrams.specs.declared.node_id.NodeId.{NodeId}
use Rattle.marker_diagrams.specs.Id.{place_of}
use Rattle.marker_diagrams.specs.Diagram.{IsHeld}
use Rattle.marker_diagrams.specs.Residue.{IsSubtree}
use Rattle.marker_nodes.specs.declared.choice.Choice.{Choice}
use Rattle.marker_nodes.specs.And.{IsAnd, IsShort}
use Rattle.marker_nodes.specs.Node.{Node, markers}
use Rattle.marker_conjunctions.specs.declared.conjunctions.Step.{Step}
use Rattle.marker_conjunctions.specs.declared.conjunctions.Step.TheVariants.{Made, Open}
use Rattle.marker_conjunctions.specs.Branch.{Joins}
use Rattle.marker_conjunctions.specs.Contents.{Contents, IsKept, IsWellKept, same_pair}
pub use Rattle.marker_conjunctions.specs.Reach.{Memo}

-- the conjunction of the pair was computed
abbrev pub IsKnown : Memo → NodeId × NodeId → Type 0
IsKnown memo p = is_some (lookup (same_pair p) memo) ≡ true

-- it was, or needs no node
abbrev pub IsSettled : Memo → NodeId × NodeId → Type 0
IsSettled memo p = IsShort p.0 p.1 ⊎ IsKnown memo p

-- what was known is known
abbrev pub Remembers : Memo → Memo → Type 0
Remembers old new = (p : NodeId × NodeId) → IsKnown old p → IsKnown new p

-- the new contents are well kept, and have the nodes and the conjunctions of the old ones
pub record StaysWellKept (old new : Contents) : Type 0 where
  pub rules : IsWellKept new
  pub kept : IsKept old new
  pub remembers : Remembers old.memo new.memo

-- the id is the conjunction of two, which is known or needs no node
pub record IsSettledAnd (c : Contents) (a b t : NodeId) : Type 0 where
  pub and : IsAnd c.nodes a b t
  pub settled : IsSettled c.memo (a, b)

-- the conjunction is still to be computed, of two ids of nodes
pub record IsOpen (memo : Memo) (p : NodeId × NodeId) : Type 0 where
  pub unsettled : ¬ IsSettled memo p
  pub left_node : 0 < place_of p.0
  pub right_node : 0 < place_of p.1

-- so it is, and it is this choice among the conjunctions of their children
pub record IsDue (nodes : List Node) (memo : Memo) (p : NodeId × NodeId) (choice : Choice)
    : Type 0 where
  pub unsettled : IsOpen memo p
  pub joins : Joins nodes p.0 p.1 choice

-- the pair is of a subtree of a and one of b, which the nodes have
pub record IsPair (nodes : List Node) (a b : NodeId) (p : NodeId × NodeId) : Type 0 where
  pub left_held : IsHeld nodes p.0
  pub right_held : IsHeld nodes p.1
  pub left : IsSubtree markers nodes a p.0
  pub right : IsSubtree markers nodes b p.1

abbrev pub ArePairs : List Node → NodeId → NodeId → List (NodeId × NodeId) → Type 0
ArePairs nodes a b [] = ⊤
ArePairs nodes a b (p ∷ pairs) = IsPair nodes a b p × ArePairs nodes a b pairs

-- the pair is one of children of a and b, whose conjunction is still to be computed
pub record IsWanted (nodes : List Node) (memo : Memo) (a b : NodeId) (p : NodeId × NodeId)
    : Type 0 where
  pub pair : IsPair nodes a b p
  pub below : place_of p.0 + place_of p.1 < place_of a + place_of b
  pub unsettled : IsOpen memo p

-- the result for the children of two ids: their conjunction, or the pair that is needed next
abbrev pub IsStep : List Node → Memo → NodeId → NodeId → Step → Type 0
IsStep nodes memo a b (Made choice) = Joins nodes a b choice
IsStep nodes memo a b (Open left right) = IsWanted nodes memo a b (left, right)

-- pairs of subtrees of a and b were added to a list
pub record Waits (nodes : List Node) (a b : NodeId) (old new : List (NodeId × NodeId))
    : Type 0 where
  pub more : List (NodeId × NodeId)
  pub added : new ≡ old ++ more
  pub pairs : ArePairs nodes a b more

-- the same of a pair of ids
abbrev pub WaitsFor : List Node → NodeId × NodeId → List (NodeId × NodeId) → List (NodeId × NodeId)
    → Type 0
WaitsFor nodes p old new = Waits nodes p.0 p.1 old new

-- if a list has pairs of subtrees of a and b, so has what is left of it, and one was taken out
abbrev pub TakesPair : List (NodeId × NodeId) → List (NodeId × NodeId) → Option (NodeId × NodeId)
    → Type 0
TakesPair old new taken = (nodes : List Node) (a b : NodeId) → ArePairs nodes a b old
    → ArePairs nodes a b new × IfSome taken (IsPair nodes a b)
