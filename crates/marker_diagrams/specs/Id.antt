-- Ids of nodes, with a sign.
use Rattle.std.specs.Prelude.{ℕ, ◌+◌, ◌-◌, ◌==◌, Bool, true, not, ◌&&◌, Option, Some, None, if◌then◌else◌}
use mathlib.Core.Bool.{beq}
use Rattle.marker_diagrams.specs.declared.node_id.NodeId.{NodeId}

-- a truth, negated if the sign says so
abbrev pub signed : Bool → Bool → Bool
signed negated b = if negated then not b else b

-- the id of the node of an index, counted from the oldest, or of its negation
abbrev pub id_of : ℕ → Bool → NodeId
id_of index negated = record { place = index + 1; complement = negated }

-- the place of the node: 0 for `TRUE`, which has no node, and k + 1 for the node of index k
abbrev pub place_of : NodeId → ℕ
place_of t = t.place

-- the index of the node, if it is one
abbrev pub index_of : NodeId → Option ℕ
index_of t = if t.place == 0 then None else Some (t.place - 1)

-- whether the id is a negation
abbrev pub is_negated : NodeId → Bool
is_negated t = t.complement

-- the id, negated if the sign says so
abbrev pub signed_id : Bool → NodeId → NodeId
signed_id negated t = record { place = t.place; complement = signed negated t.complement }

-- the negation of an id
abbrev pub opposite : NodeId → NodeId
opposite t = signed_id true t

-- whether two ids are the same
abbrev pub same_id : NodeId → NodeId → Bool
same_id a b = (a.place == b.place) && beq a.complement b.complement
