-- Which conjunctions are computed, and how many.
use Rattle.std.specs.Prelude.{◌≡◌, ℕ, ◌+◌, ◌≤◌, ◌<◌, true, IsOk, List, [], ◌∷◌, Result, is_some, if◌then◌else◌}
use Rattle.std.specs.List.{list_any}
use Rattle.std.specs.Map.{lookup}
use Rattle.marker_diagrams.specs.declared.node_id.NodeId.{NodeId}
use Rattle.marker_diagrams.specs.Id.{place_of}
use Rattle.marker_diagrams.specs.Diagram as diagram
use Rattle.marker_diagrams.specs.Residue.{IsSubtree}
use Rattle.marker_nodes.specs.Node.{Node, markers}
use Rattle.marker_conjunctions.specs.declared.conjunctions.Conjunctions.{Conjunctions}
use Rattle.marker_conjunctions.specs.Contents.{Contents, contents, same_pair}
use Rattle.marker_conjunctions.specs.Step.{IsKnown, IsSettled}

-- how many of the pairs have no known conjunction
abbrev pub unknown : List (NodeId × NodeId) → List ((NodeId × NodeId) × NodeId) → ℕ
unknown [] memo = 0
unknown (p ∷ pairs) memo =
    (if is_some (lookup (same_pair p) memo) then 0 else 1) + unknown pairs memo

-- the list has each pair of a subtree of a and one of b
abbrev pub Covers : List Node → NodeId → NodeId → List (NodeId × NodeId) → Type 0
Covers nodes a b pairs =
    (x y : NodeId) → IsSubtree markers nodes a x → IsSubtree markers nodes b y
    → list_any (same_pair (x, y)) pairs ≡ true

-- From c to d each conjunction that was counted made a pair of subtrees of a and b known, and none
-- of the pairs from a size on; the count did not fall.
pub record Spends (c d : Contents) (size : ℕ) (a b : NodeId) : Type 0 where
  pub above : (k : NodeId × NodeId) → size ≤ place_of k.0 + place_of k.1
      → lookup (same_pair k) d.memo ≡ lookup (same_pair k) c.memo
  pub spent : (pairs : List (NodeId × NodeId)) → Covers c.nodes a b pairs
      → d.expansions + unknown pairs d.memo ≤ c.expansions + unknown pairs c.memo
  pub rises : c.expansions ≤ d.expansions

-- an id that is new was counted, unless the count was at its maximum
abbrev pub IsCounted : Contents → Contents → NodeId → Type 0
IsCounted old new t =
    (diagram.IsHeld old.nodes t → ⊥) → old.expansions < 18446744073709551615
    → old.expansions < new.expansions

-- the count rises, unless it is at its maximum
abbrev pub Rises : ℕ → ℕ → Type 0
Rises old new = old < 18446744073709551615 → old < new

-- the conjunction of the pair became known and was counted
pub record AddsPair (old new : Conjunctions) (p : NodeId × NodeId) : Type 0 where
  pub known : IsKnown new.memo.entries p
  pub counted : Rises old.expansions new.expansions

-- nodes, and the conjunctions of their ids
abbrev pub State : Type 0
State = List Node × Conjunctions

-- from one state to the other each conjunction that was counted made a pair of subtrees of a and b
-- known, whose places are together at most as high as those of a and b
abbrev pub SpendsWithin : State → State → NodeId → NodeId → Type 0
SpendsWithin old new a b =
    Spends (contents old.0 old.1) (contents new.0 new.1) (place_of a + place_of b + 1) a b

-- an id that is new in the later state was counted, unless the count was at its maximum
abbrev pub IsCountedIn : State → State → NodeId → Type 0
IsCountedIn old new t = IsCounted (contents old.0 old.1) (contents new.0 new.1) t

-- there is an answer, and nothing changed
abbrev pub IsTold : {A E : Type 0} → Result A E → State → State → Type 0
IsTold result old new = IsOk result × (contents new.0 new.1 ≡ contents old.0 old.1)

-- so it is if the conjunction of the pair was known or needs no node
abbrev pub IsToldIfSettled : {A E : Type 0} → Result A E → State → State → NodeId × NodeId → Type 0
IsToldIfSettled result old new p = IsSettled old.1.memo.entries p → IsTold result old new
