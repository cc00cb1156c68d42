-- How far the ids of conjunctions reach among the nodes.
use Rattle.std.specs.Prelude.{ℕ, List, [], ◌∷◌, if◌then◌else◌, max, nat_le, take}
use Rattle.marker_diagrams.specs.declared.node_id.NodeId.{NodeId}
use Rattle.marker_diagrams.specs.Id.{place_of}

-- conjunctions in the order in which they became known: the two ids, and that of their conjunction
abbrev pub Memo : Type 0
Memo = List ((NodeId × NodeId) × NodeId)

-- the highest place of the three ids
abbrev pub top : (NodeId × NodeId) × NodeId → ℕ
top known = max (max (place_of known.0.0) (place_of known.0.1)) (place_of known.1)

-- the highest place of all ids, given the highest of those before
abbrev pub reach_from : ℕ → Memo → ℕ
reach_from place [] = place
reach_from place (known ∷ memo) = reach_from (max place (top known)) memo

-- the highest place of all ids: each is within as many of the oldest nodes
abbrev pub reach : Memo → ℕ
reach memo = reach_from 0 memo

-- for each conjunction, the highest place in it and those before it
abbrev pub reaches_from : ℕ → Memo → List ℕ
reaches_from place [] = []
reaches_from place (known ∷ memo) =
    max place (top known) ∷ reaches_from (max place (top known)) memo

-- the first conjunctions, as many as a number says, if their ids are within so many of the oldest
-- nodes; otherwise none
abbrev pub first_within : ℕ → ℕ → Memo → Memo
first_within known nodes memo =
    if nat_le (reach (take known memo)) nodes then take known memo else []
