-- The bounds of edges, as they are written.
use Rattle.std.proofs.Common.{◌≡◌, true, List, [], ◌∷◌, map, refl, arith}
use Rattle.std.specs.List.{list_all}
use Rattle.std.specs.declared.ops.Bound.{Bound}
use Rattle.std.specs.declared.ops.Bound.TheVariants.{Unbounded}
use Rattle.std.proofs.lemmas.Bool.{and_from, and_parts}
use Rattle.version_ranges.specs.declared.cut.Cut.{Cut}
use Rattle.version_ranges.specs.declared.cuts.Cuts.{Cuts}
use Rattle.version_ranges.specs.Bounds.{all_cuts, passes_at}
use Rattle.version_ranges.specs.Cut.{lower_of, upper_of}
use Rattle.version_ranges.specs.Parts.{parts_from, parts_of}
use Rattle.pep440_version.specs.Parts.{Parts}
use Rattle.pep440_rs.specs.Intervals.{is_trimmed}
use Rattle.marker_diagrams.specs.declared.node_id.NodeId.{NodeId}
use Rattle.marker_graph.specs.declared.tree.MarkerTree.{MarkerTree}
use Rattle.marker_graph.specs.Edges.{under}
use Rattle.marker_graph.specs.Kind.{has_trimmed_bounds}

lower_trimmed : (c : Cut Parts) → is_trimmed c.value ≡ true → passes_at is_trimmed (lower_of c) ≡ true
lower_trimmed c h1 = grind arith

upper_trimmed : (c : Cut Parts) → is_trimmed c.value ≡ true → passes_at is_trimmed (upper_of c) ≡ true
upper_trimmed c h1 = grind arith

edges_from : (t : MarkerTree) (low : Bound Parts) (v : NodeId) (steps : List (Cut Parts × NodeId)) → passes_at is_trimmed low ≡ true → list_all (λ s. is_trimmed s.0.value) steps ≡ true
    → list_all has_trimmed_bounds (map (under t) (parts_from low v steps)) ≡ true
edges_from t low v [] l h = and_from _ _ (and_from _ _ l refl) refl
edges_from t low v (s ∷ steps) l h =
    let k = and_parts (is_trimmed s.0.value) (list_all (λ x. is_trimmed x.0.value) steps) h in
    and_from _ _ (and_from _ _ l (upper_trimmed s.0 k.0)) (edges_from t (lower_of s.0) s.1 steps (lower_trimmed s.0 k.0) k.1)

-- the edges of a node
pub trimmed_edges : {a : _} {b : _} {c : _} (t : MarkerTree) (cuts : Cuts Parts NodeId a b c) → all_cuts is_trimmed cuts ≡ true → list_all has_trimmed_bounds (map (under t) (parts_of cuts)) ≡ true
trimmed_edges t cuts h = edges_from t Unbounded cuts.first cuts.rest.items refl h
