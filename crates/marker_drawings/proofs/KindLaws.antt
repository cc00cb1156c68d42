-- The subtrees at the edges of a kind.
use Rattle.std.proofs.Common.{◌≡◌, ◌≢◌, ◌⊎◌, inl, inr, ℕ, zero, suc, ◌==◌, Bool, true, false, cond, List, [], ◌∷◌, length, map, Option, Some, None, refl, sym, ap, ◌∙◌, subst, arith, string_bytes}
use Rattle.std.specs.Prelude.{slice_get}
use Rattle.std.specs.Option.{option_map}
use Rattle.std.proofs.lemmas.Bool.{ne_eqb}
use Rattle.std.proofs.lemmas.Option.{slice_get-map}
use Rattle.version_ranges.specs.Cuts.{piece_by, piece_of}
use Rattle.version_ranges.specs.Parts.{Part, parts_of}
use Rattle.version_ranges.proofs.PartLaws.{are_pieces}
use Rattle.pep440_version.specs.Parts.{Parts}
use Rattle.pep440_version.specs.Order.{version_cmp}
use Rattle.pep440_version.specs.OrderLaws.{version_total}
use Rattle.marker_words.specs.Compare.{text_cmp}
use Rattle.marker_environment.specs.Valuation.{Valuation}
use Rattle.marker_diagrams.specs.declared.node_id.NodeId.{NodeId}
use Rattle.marker_diagrams.specs.Diagram as diagram
use Rattle.marker_diagrams.proofs.NodeLaws.{none_some, same_some}
use Rattle.marker_nodes.specs.declared.node.Branches.TheVariants.{Version, Text, Truth}
use Rattle.marker_nodes.specs.declared.variable.TruthVariable.{TruthVariable}
use Rattle.marker_nodes.specs.Branches.{value_at}
use Rattle.marker_nodes.specs.Node.{Node}
use Rattle.marker_nodes.specs.Variable.{answer}
use Rattle.marker_graph.specs.declared.kind.MarkerTreeKind.{MarkerTreeKind}
use Rattle.marker_graph.specs.declared.kind.MarkerTreeKind.TheVariants as kinds
use Rattle.marker_graph.specs.declared.kind.StringMarkerTree.{StringMarkerTree}
use Rattle.marker_graph.specs.declared.kind.VersionMarkerTree.{VersionMarkerTree}
use Rattle.marker_graph.specs.declared.tree.MarkerTree.{MarkerTree}
use Rattle.marker_graph.specs.Contents.{Contents, IsHeld}
use Rattle.marker_graph.specs.Edges.{by_bytes, child_of, under}
use Rattle.marker_graph.specs.Kind.{version_edges, string_edges, AreItsEdges, AsksForTruth, IsKind}
use Rattle.marker_graph.specs.Tree.{node_of, IsSubtree}
use Rattle.marker_graph.proofs.KindLaws.{under_bytes}
use Rattle.marker_graph.proofs.TextParts.{text_parts}
use Rattle.marker_drawings.specs.Drawing.{HasNode, subtrees_of}
use Rattle.marker_drawings.specs.Numbering.{Has}
use Rattle.marker_drawings.proofs.ListLaws.{map_at}

-- ---- what an edge leads to is a subtree that the interner holds
abbrev Below : Contents → MarkerTree → MarkerTree → Type 0
Below c t u = IsSubtree c t u × IsHeld c u

one_of_two : (P : MarkerTree → Type 0) (a b u : MarkerTree) (i : ℕ) → slice_get (a ∷ b ∷ []) i ≡ Some u → P a → P b → P u
one_of_two P a b u zero e p q = subst P (same_some a u e) p
one_of_two P a b u (suc zero) e p q = subst P (same_some b u e) q
one_of_two P a b u (suc (suc i)) e p q = none_some u e

pub below : (c : Contents) (t : MarkerTree) (kind : MarkerTreeKind) → AreItsEdges c t kind → (u : MarkerTree) → Has (subtrees_of kind) u → IsSubtree c t u × IsHeld c u
below c t kinds.True h u k = none_some u k.1
below c t kinds.False h u k = none_some u k.1
below c t (kinds.Version view) h u k =
    let q = map_at (λ (e : Part Parts MarkerTree). e.value) (version_edges view) k.0 u k.1 in
    let b = h.behind k.0 q.0 q.1 in subst (Below c t) q.2 (b.subtree, b.held)
below c t (kinds.String view) h u k =
    let q = map_at (λ (e : Part (List ℕ) MarkerTree). e.value) (string_edges view) k.0 u k.1 in
    let b = h.behind k.0 q.0 q.1 in subst (Below c t) q.2 (b.subtree, b.held)
below c t (kinds.In view) h u k = one_of_two (Below c t) view.high view.low u k.0 k.1 (h.high_behind.subtree, h.high_behind.held) (h.low_behind.subtree, h.low_behind.held)
below c t (kinds.Contains view) h u k = one_of_two (Below c t) view.high view.low u k.0 k.1 (h.high_behind.subtree, h.high_behind.held) (h.low_behind.subtree, h.low_behind.held)
below c t (kinds.Extra view) h u k = one_of_two (Below c t) view.high view.low u k.0 k.1 (h.high_behind.subtree, h.high_behind.held) (h.low_behind.subtree, h.low_behind.held)

-- ---- each child of a marker's node is led to

version_led : (c : Contents) (t : MarkerTree) (view : VersionMarkerTree) → view.tree ≡ t → (v : Valuation) → Has (map (λ (e : Part Parts MarkerTree). e.value) (version_edges view)) (child_of t (value_at (Version view.variable view.cuts.now) v))
version_led c t view k v =
    let es = view.cuts.now in
    let q = (are_pieces version_cmp version_total es es.ascending (omega (arith, es.rest.ok.0))).covers (v.version view.variable) in
    let i = piece_of version_cmp es (v.version view.variable) in
    let P : MarkerTree → Type 0 = λ s. Has (map (λ (e : Part Parts MarkerTree). e.value) (version_edges view)) (child_of s (value_at (Version view.variable view.cuts.now) v)) in
    subst P k (
      i,
      slice_get-map (λ (e : Part Parts MarkerTree). e.value) (version_edges view) i ∙ ap (option_map (λ (e : Part Parts MarkerTree). e.value)) (slice_get-map (under view.tree) (parts_of es) i ∙ ap (option_map (under view.tree)) q.1)
          ∙ ap (λ x. Some (child_of view.tree x)) q.3,
    )

string_led : (c : Contents) (t : MarkerTree) (view : StringMarkerTree) → view.tree ≡ t → (v : Valuation) → Has (map (λ (e : Part (List ℕ) MarkerTree). e.value) (string_edges view)) (child_of t (value_at (Text view.variable view.cuts.now) v))
string_led c t view k v =
    let es = view.cuts.now in
    let q = (text_parts es es.ascending (omega (arith, es.rest.ok.0))).covers (v.text view.variable) in
    let i = piece_by string_bytes text_cmp es (v.text view.variable) in
    let P : MarkerTree → Type 0 = λ s. Has (map (λ (e : Part (List ℕ) MarkerTree). e.value) (string_edges view)) (child_of s (value_at (Text view.variable view.cuts.now) v)) in
    subst P k (
      i,
      slice_get-map (λ (e : Part (List ℕ) MarkerTree). e.value) (string_edges view) i ∙ ap (option_map (λ (e : Part (List ℕ) MarkerTree). e.value))
          (ap (λ ps. slice_get ps i) (sym (under_bytes view.tree (parts_of es))) ∙ slice_get-map (under view.tree) (map (λ p. by_bytes p) (parts_of es)) i ∙ ap (option_map (under view.tree)) q.1)
          ∙ ap (λ x. Some (child_of view.tree x)) q.3,
    )

truth_led : (c : Contents) (t : MarkerTree) (x : TruthVariable) (high low : MarkerTree) → AsksForTruth c t x high low → (n : Node) → node_of c t ≡ Some n → (v : Valuation) → Has (high ∷ low ∷ []) (child_of t (value_at n v))
truth_led c t x high low k n e v =
    let f : Truth x k.0 k.1 ≡ n = same_some (Truth x k.0 k.1) n (sym k.2 ∙ e) in
    let P : Node → Type 0 = λ m. Has (high ∷ low ∷ []) (child_of t (value_at m v)) in subst P f (by_answer (answer x v))
  where
    by_answer : (b : Bool) → Has (high ∷ low ∷ []) (child_of t (cond b k.0 k.1))
    by_answer true = (0, ap Some k.3)
    by_answer false = (1, ap Some k.4)

pub child_led : (c : Contents) (t : MarkerTree) (kind : MarkerTreeKind) → IsKind c t kind → HasNode t → (n : Node) → node_of c t ≡ Some n → (v : Valuation) → Has (subtrees_of kind) (child_of t (value_at n v))
child_led c t kinds.True k h n e v = absurd (h.0 k)
child_led c t kinds.False k h n e v = absurd (h.1 k)
child_led c t (kinds.Version view) k h n e v =
    let P : Node → Type 0 = λ m. Has (subtrees_of (kinds.Version view)) (child_of t (value_at m v)) in subst P (same_some (Version view.variable view.cuts.now) n (sym k.0 ∙ e)) (version_led c t view k.1 v)
child_led c t (kinds.String view) k h n e v =
    let P : Node → Type 0 = λ m. Has (subtrees_of (kinds.String view)) (child_of t (value_at m v)) in subst P (same_some (Text view.variable view.cuts.now) n (sym k.0 ∙ e)) (string_led c t view k.1 v)
child_led c t (kinds.In view) k h n e v = truth_led c t _ view.high view.low k n e v
child_led c t (kinds.Contains view) k h n e v = truth_led c t _ view.high view.low k n e v
child_led c t (kinds.Extra view) k h n e v = truth_led c t _ view.high view.low k n e v

-- ---- a marker whose id has a node is no constant

none_at_zero : (nodes : List Node) → diagram.node_at nodes 0 ≡ None
none_at_zero [] = refl
none_at_zero (n ∷ older) = ap (λ b. cond b (Some n) (diagram.node_at older 0)) (ne_eqb 0 (suc (length older)) (λ f. omega arith)) ∙ none_at_zero older

pub has_node : (c : Contents) (t : MarkerTree) (n : Node) → node_of c t ≡ Some n → HasNode t
has_node c t n e = (λ f. none_some n (sym (none_at_zero c.nodes) ∙ sym (ap (node_of c) f) ∙ e), λ f. none_some n (sym (none_at_zero c.nodes) ∙ sym (ap (node_of c) f) ∙ e))
