-- A list of nodes, and what is known of the conjunctions of its ids.
use Rattle.std.specs.Prelude.{◌≡◌, ℕ, ◌≤◌, ◌<◌, Bool, ◌&&◌, List, [], Some, length, slice_get}
use Rattle.std.specs.Map.{lookup}
use Rattle.marker_diagrams.specs.declared.node_id.NodeId.{NodeId}
use Rattle.marker_diagrams.specs.Id.{same_id}
use Rattle.marker_diagrams.specs.Diagram as diagram
use Rattle.marker_nodes.specs.Node.{Node, markers}
use Rattle.marker_nodes.specs.And.{IsAnd}
use Rattle.marker_nodes.specs.Table.{oldest}
use Rattle.marker_conjunctions.specs.declared.conjunctions.Conjunctions.{Conjunctions}
use Rattle.marker_conjunctions.specs.Reach.{Memo, first_within, reach}

-- the nodes, the newest first, the conjunctions that are known, and how many were computed
pub record Contents : Type 0 where
  pub nodes : List Node
  pub memo : Memo
  pub expansions : ℕ

abbrev pub nothing : Contents
nothing = record { nodes = []; memo = []; expansions = 0 }

-- a table of nodes, and the conjunctions of its ids
abbrev pub contents : List Node → Conjunctions → Contents
contents nodes conjunctions = record
    { nodes = nodes; memo = conjunctions.memo.entries; expansions = conjunctions.expansions }

-- what became known first stays first
pub record StaysFirst (old new : Memo) : Type 0 where
  pub longer : length old ≤ length new
  pub known : (i : ℕ) → i < length old → slice_get new i ≡ slice_get old i

-- the new contents have the old nodes, with their meanings, and the old conjunctions
pub record IsKept (old new : Contents) : Type 0 where
  pub nodes : diagram.Keeps markers old.nodes new.nodes
  pub memo : StaysFirst old.memo new.memo

-- the nodes and what is known are the same; how many conjunctions were computed is left open
pub record HoldsTheSame (old new : Contents) : Type 0 where
  pub nodes : new.nodes ≡ old.nodes
  pub memo : new.memo ≡ old.memo

-- the oldest nodes and the first known conjunctions, as many as the numbers say, if the latter are
-- of those nodes
abbrev pub released : ℕ → ℕ → Contents → Contents
released nodes known c = record {
  nodes = oldest nodes c.nodes;
  memo = first_within known nodes c.memo;
  expansions = c.expansions;
}

-- whether two pairs are the same
abbrev pub same_pair : NodeId × NodeId → NodeId × NodeId → Bool
same_pair p q = same_id p.0 q.0 && same_id p.1 q.1

-- the nodes satisfy the rules of diagrams, and each known conjunction is true and of ids that the
-- nodes have
pub record IsWellKept (c : Contents) : Type 0 where
  pub nodes : diagram.IsStore markers c.nodes
  pub known : (a b t : NodeId) → lookup (same_pair (a, b)) c.memo ≡ Some t
      → diagram.IsHeld c.nodes a × (diagram.IsHeld c.nodes b × IsAnd c.nodes a b t)
  pub within : reach c.memo ≤ length c.nodes

-- the contents are well kept, and have both ids
pub record HoldsBoth (c : Contents) (a b : NodeId) : Type 0 where
  pub rules : IsWellKept c
  pub left : diagram.IsHeld c.nodes a
  pub right : diagram.IsHeld c.nodes b

-- the id is the conjunction of two in all nodes that have them, if what is known is well kept there
abbrev pub IsAndBy : Conjunctions → NodeId → NodeId → NodeId → Type 0
IsAndBy conjunctions a b t = (nodes : List Node) → IsWellKept (contents nodes conjunctions)
    → diagram.IsHeld nodes a → diagram.IsHeld nodes b → IsAnd nodes a b t
