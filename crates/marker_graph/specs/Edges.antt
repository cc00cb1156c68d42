-- Edges of markers: bounds and subtrees.
use Rattle.std.specs.Prelude.{ℕ, Bool, true, false, List, ◌++◌, map, String, string_bytes}
use Rattle.std.specs.Option.{option_map, option_to_list}
use Rattle.std.specs.Global.{Global}
use Rattle.std.specs.Borrow.{Bor}
use Rattle.std.specs.Range.Bound.{bound_map}
use Rattle.std.specs.declared.ops.Bound.{Bound}
use Rattle.version_ranges.specs.Parts.{Part, parts_left}
use Rattle.pep440_version.specs.Parts.{Parts}
use Rattle.marker_diagrams.specs.declared.node_id.NodeId.{NodeId}
use Rattle.marker_diagrams.specs.Id.{is_negated, signed_id}
use Rattle.marker_graph.specs.declared.tree.MarkerTree.{MarkerTree}
use Rattle.marker_graph.specs.declared.edges.VersionEdges.{VersionEdges}
use Rattle.marker_graph.specs.declared.edges.StringEdges.{StringEdges}
use Rattle.marker_graph.specs.declared.edges.BooleanEdges.{BooleanEdges}

-- a child of a marker's node, as a subtree of the marker: a child of a negation is negated
abbrev pub child_of : MarkerTree → NodeId → MarkerTree
child_of t child = record { id = signed_id (is_negated t.id) child }

-- the piece of a marker's node, as an edge of the marker
abbrev pub under : {T : Type 0} → MarkerTree → Part T NodeId → Part T MarkerTree
under t p = record { lower = p.lower; upper = p.upper; value = child_of t p.value }

-- the same with the bytes of texts
abbrev pub by_bytes : {A V : Type 0} → Part (String A) V → Part (List ℕ) V
by_bytes p = record {
  lower = bound_map string_bytes p.lower;
  upper = bound_map string_bytes p.upper;
  value = p.value;
}

-- an edge without its references
abbrev pub version_edge : Bound (Bor Parts) × Bound (Bor Parts) × MarkerTree → Part Parts MarkerTree
version_edge e = record {
  lower = bound_map (λ v. v.now) e.0;
  upper = bound_map (λ v. v.now) e.1;
  value = e.2;
}

abbrev pub string_edge : Bound (Bor (String Global)) × Bound (Bor (String Global)) × MarkerTree
    → Part (List ℕ) MarkerTree
string_edge e = by_bytes (record {
  lower = bound_map (λ v. v.now) e.0;
  upper = bound_map (λ v. v.now) e.1;
  value = e.2;
})

-- what an iterator has left
abbrev pub version_edges_left : VersionEdges → List (Part Parts MarkerTree)
version_edges_left it = map (under it.tree) (parts_left it.pieces)

abbrev pub string_edges_left : StringEdges → List (Part (List ℕ) MarkerTree)
string_edges_left it = map (λ p. by_bytes (under it.tree p)) (parts_left it.pieces)

abbrev pub boolean_edges_left : BooleanEdges → List (Bool × MarkerTree)
boolean_edges_left it = option_to_list (option_map (λ t. (true, t)) it.high)
    ++ option_to_list (option_map (λ t. (false, t)) it.low)
