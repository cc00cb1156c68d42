-- How a table of nodes grows: which nodes it has, and how many pieces they have and may have.
use Rattle.std.specs.Prelude.{◌≡◌, ℕ, ◌+◌, ◌-◌, ◌≤◌, ◌<◌, ◌^◌, true, List, [], ◌∷◌, MatchResult, Result, Some, drop, length}
use Rattle.marker_diagrams.specs.declared.node_id.NodeId.{NodeId}
use Rattle.marker_diagrams.specs.Diagram.{IsHeld, IsStore, Keeps, node_at}
use Rattle.marker_nodes.specs.Branches.{count, has_trimmed_cuts}
use Rattle.marker_nodes.specs.Node.{Node, markers}

-- the pieces of all nodes
abbrev pub pieces_of : List Node → ℕ
pieces_of [] = 0
pieces_of (node ∷ older) = count node + pieces_of older

-- each version at which the child of a node changes is written without zeros at the end of its
-- release
abbrev pub AreTrimmed : List Node → Type 0
AreTrimmed nodes =
    (i : ℕ) (node : Node) → node_at nodes i ≡ Some node → has_trimmed_cuts node ≡ true

-- the nodes keep the rules of diagrams, are written without zeros at ends, and have so many pieces,
-- for which there is room; ids can name as many nodes
pub record HasRoom (nodes : List Node) (pieces room : ℕ) : Type 0 where
  pub rules : IsStore markers nodes
  pub trimmed : AreTrimmed nodes
  pub counted : pieces ≡ pieces_of nodes
  pub fits : pieces ≤ room
  pub named : room < 2 ^ 32

-- the oldest nodes of a list that has the newest first: as many as a number says, or all if there
-- are no more
abbrev pub oldest : ℕ → List Node → List Node
oldest count nodes = drop (length nodes - count) nodes

-- the new list has the nodes of the old one, with their meanings, and follows the rules of diagrams
-- if that does
pub record GrowsByRules (old new : List Node) : Type 0 where
  pub nodes : Keeps markers old new
  pub rules : IsStore markers old → IsStore markers new

-- nothing is added if there is an error, or if the list has the resulting id already
abbrev pub AddsOnly : {E : Type 0} → Result NodeId E → List Node → List Node → Type 0
AddsOnly result old new =
    MatchResult result (λ id. IsHeld old id → new ≡ old) (λ e. new ≡ old)
