-- The edges of a marker, and what its truth says of them.
use Rattle.std.proofs.Common.{◌≡◌, ◌≢◌, ℕ, ◌+◌, ◌<◌, ◌≤◌, Bool, true, false, cond, List, [], ◌∷◌, length, map, Option, Some, None, refl, sym, ap, ◌∙◌, subst, arith, string_bytes}
use Rattle.std.specs.Prelude.{slice_get, String}
use Rattle.std.specs.Global.{Global}
use Rattle.std.specs.Option.{option_map}
use Rattle.std.specs.Ordering.{ordering_reverse}
use Rattle.std.specs.declared.cmp.Ordering.{Ordering}
use Rattle.std.specs.declared.cmp.Ordering.TheVariants.{Less, Equal, Greater}
use Rattle.std.proofs.lemmas.Cmp.{tied_itself}
use Rattle.std.proofs.lemmas.Option.{slice_get-map}
use Rattle.version_ranges.specs.declared.cuts.Cuts.{Cuts}
use Rattle.version_ranges.specs.Point.{Point}
use Rattle.version_ranges.specs.Parts.{Part, parts_of, IsIn}
use Rattle.version_ranges.specs.Cuts.{piece_by, piece_of, value_by, value_of}
use Rattle.version_ranges.proofs.PartLaws.{are_pieces}
use Rattle.pep440_version.specs.Parts.{Parts}
use Rattle.pep440_version.specs.Order.{version_cmp}
use Rattle.pep440_version.specs.OrderLaws.{version_total}
use Rattle.marker_words.specs.Compare.{text_cmp}
use Rattle.marker_words.specs.declared.key.TextVariable.{TextVariable}
use Rattle.marker_words.specs.declared.key.VersionVariable.{VersionVariable}
use Rattle.marker_environment.specs.Valuation.{Valuation}
use Rattle.marker_diagrams.specs.declared.node_id.NodeId.{NodeId}
use Rattle.marker_diagrams.specs.declared.node_id.TheConstants.NodeId as id_constants
use Rattle.marker_diagrams.specs.Id.{place_of, is_negated, signed_id}
use Rattle.marker_diagrams.specs.Diagram.{IsAfter, IsStore}
use Rattle.marker_diagrams.specs.Residue.{itself, child}
use Rattle.marker_diagrams.proofs.IdLaws.{one_id, signed_id_back}
use Rattle.marker_diagrams.proofs.NodeLaws.{same_some, none_some, terminal, truth_child}
use Rattle.marker_diagrams.proofs.Canonicity.{child_seen, descends, unseen}
use Rattle.marker_diagrams.proofs.ResidueLaws.{depends, sees_none_before}
use Rattle.marker_nodes.specs.declared.node.Branches.TheVariants.{Version, Text, Truth}
use Rattle.marker_nodes.specs.declared.variable.TruthVariable.{TruthVariable}
use Rattle.marker_nodes.specs.declared.variable.TruthVariable.TheVariants as questions
use Rattle.marker_nodes.specs.Variable.{Variable, answer, of_text, of_version, truth_variable, variable_cmp}
use Rattle.marker_nodes.specs.Branches.{piece, value_at, variable}
use Rattle.marker_nodes.specs.Node.{Node, markers, lowest}
use Rattle.marker_nodes.proofs.VariableLaws.{variable_total}
use Rattle.marker_nodes.proofs.NodeLaws.{lawful, at_text, at_version, denied, answer_denied, answer_lowest}
use Rattle.marker_nodes.proofs.BranchLaws.{children_differ}
use Rattle.marker_graph.specs.declared.tree.MarkerTree.{MarkerTree}
use Rattle.marker_graph.specs.declared.tree.TheConstants.MarkerTree.{TRUE, FALSE}
use Rattle.marker_graph.specs.declared.kind.MarkerTreeKind.{MarkerTreeKind}
use Rattle.marker_graph.specs.declared.kind.MarkerTreeKind.TheVariants as kinds
use Rattle.marker_graph.specs.Contents.{Contents, IsHeld, truth}
use Rattle.marker_graph.specs.Tree.{node_of, DependsOn}
use Rattle.marker_graph.specs.Edges.{by_bytes, child_of, under}
use Rattle.marker_graph.specs.Kind.{extra_question, AreBooleanEdges, AreEdges, AreItsEdges, AsksForTruth, IsBehind, IsFirstVariable, IsFixed, IsKind, IsKindOfTruth}
use Rattle.marker_graph.proofs.TextParts.{ArePartsOf, text_parts}

-- ---- constants

made : NodeId → MarkerTree
made x = record { id = x }

-- a marker without a node that is not TRUE is FALSE
pub other_constant : (c : Contents) (t : MarkerTree) → IsHeld c t → node_of c t ≡ None → t ≢ TRUE → t ≡ FALSE
unfolding made
other_constant c t h e n = by_sign (is_negated t.id) refl
  where
    by_sign : (b : Bool) → is_negated t.id ≡ b → t ≡ FALSE
    by_sign true f = ap made (one_id t.id id_constants.FALSE (terminal c.nodes (place_of t.id) h e) f)
    by_sign false f = absurd (n (ap made (one_id t.id id_constants.TRUE (terminal c.nodes (place_of t.id) h e) f)))

-- ---- subtrees

-- an id on variables after x depends only on such
depends_later : (c : Contents) → IsStore markers c.nodes → (x : Variable) (s : MarkerTree) → IsAfter markers c.nodes x s.id → (y : Variable) → DependsOn (truth c s) y → variable_cmp x y ≡ Less
depends_later c store x s after y h = by_order (variable_cmp x y) refl
  where
    unless_after : {G : Type 0} → IsAfter markers c.nodes y s.id → G
    unless_after k = absurd (h.2 (unseen markers lawful c.nodes store s.id y h.0 h.1 k))

    by_order : (r : Ordering) → variable_cmp x y ≡ r → r ≡ Less
    by_order Less e = refl
    by_order Equal e = unless_after (λ m f. sym (variable_total.congr x y (variable m) e) ∙ after m f)
    by_order Greater e = unless_after (λ m f. variable_total.trans y x (variable m) (variable_total.antisymm y x ∙ ap ordering_reverse e) (after m f))

module _ (c : Contents) (store : IsStore markers c.nodes) (t : MarkerTree) (held : IsHeld c t) (n : Node) (node : node_of c t ≡ Some n) where
  first_is : IsFirstVariable (truth c t) (variable n)
  first_is = record {
    depends = depends markers lawful c.nodes store t.id n held node;
    none_before = λ y h. sees_none_before markers lawful c.nodes store t.id n y node h;
  }

  -- the subtree that a valuation selects
  abbrev selected : Valuation → MarkerTree
  selected v = child_of t (value_at n v)

  selected_behind : (v : Valuation) → IsBehind c t (variable n) (selected v)
  selected_behind v =
      let k = store.node (place_of t.id) n node in
      let b : place_of (value_at n v) < place_of t.id = k.below v in
      let h : place_of t.id ≤ length c.nodes = held in
      record {
        subtree = child t.id (signed_id (is_negated t.id) (value_at n v)) n v itself node refl;
        held = (let g : place_of (value_at n v) ≤ length c.nodes = omega arith in g);
        below = b;
        later = depends_later c store (variable n) (child_of t (value_at n v)) (k.after v);
      }

  selected_means : (v : Valuation) → IsFixed c t (variable n) v (selected v)
  selected_means v w = sym (child_seen markers lawful c.nodes store t.id n (variable n) v w node (tied_itself lawful.total (variable n)))

  selected_here : (v : Valuation) → truth c t v ≡ truth c (selected v) v
  selected_here v = truth_child markers c.nodes t.id n v (descends markers lawful c.nodes store) node

  selected_differ : (v w : Valuation) → piece n w ≡ piece n v + 1 → selected v ≢ selected w
  selected_differ v w e f =
      children_differ n ((store.node (place_of t.id) n node).reduced) v w e (signed_id_back (is_negated t.id) (value_at n v) (value_at n w) (ap (λ s. s.id) f))

  -- ---- edges by points
  module _ {T : Type 0} (cmp : T → T → Ordering) (place : Valuation → Point T) (valued : Point T → Valuation) (back : (p : Point T) → place (valued p) ≡ p)
      (piece_at : Point T → ℕ) (value_of : Point T → NodeId) (selects : (v : Valuation) → value_at n v ≡ value_of (place v)) (numbered : (v : Valuation) → piece n v ≡ piece_at (place v))
      (parts : List (Part T NodeId)) (facts : ArePartsOf cmp piece_at value_of parts) where
    abbrev IsEdge : ℕ → Part T MarkerTree → Type 0
    IsEdge i e = slice_get (map (under t) parts) i ≡ Some e

    -- an edge is a part
    part_of : (i : ℕ) (e : Part T MarkerTree) → IsEdge i e → (p : Part T NodeId) × (slice_get parts i ≡ Some p) × (e ≡ under t p)
    part_of i e h = by_part (slice_get parts i) refl
      where
        by_part : (o : Option (Part T NodeId)) → slice_get parts i ≡ o → (p : Part T NodeId) × (slice_get parts i ≡ Some p) × (e ≡ under t p)
        by_part (Some p) f = (p, f, same_some e (under t p) (sym h ∙ slice_get-map (under t) parts i ∙ ap (option_map (under t)) f))
        by_part None f = none_some e (sym (slice_get-map (under t) parts i ∙ ap (option_map (under t)) f) ∙ h)

    edge_of : (i : ℕ) (p : Part T NodeId) → slice_get parts i ≡ Some p → IsEdge i (under t p)
    edge_of i p h = slice_get-map (under t) parts i ∙ ap (option_map (under t)) h

    -- a point of an edge lies in its part
    inside : (i : ℕ) (e : Part T MarkerTree) (p : Point T) → IsEdge i e → IsIn cmp e p → piece_at p ≡ i
    inside i e p h u = let q = part_of i e h in facts.apart i q.0 p q.1 (subst (λ (z : Part T MarkerTree). IsIn cmp z p) q.2 u)

    -- its subtree is the one that is selected there
    edge_selected : (i : ℕ) (e : Part T MarkerTree) (v : Valuation) → IsEdge i e → IsIn cmp e (place v) → e.value ≡ selected v
    edge_selected i e v h u =
        let q = part_of i e h in
        let r = facts.covers (place v) in
        let k : r.0 ≡ q.0 = same_some r.0 q.0 (sym r.1 ∙ ap (slice_get parts) (inside i e (place v) h u) ∙ q.1) in
        ap (λ (z : Part T MarkerTree). z.value) q.2 ∙ ap (λ (z : Part T NodeId). child_of t z.value) (sym k) ∙ ap (child_of t) (r.3 ∙ sym (selects v))

    some_point : (i : ℕ) (e : Part T MarkerTree) → IsEdge i e → (p : Point T) × IsIn cmp e p
    some_point i e h = let q = part_of i e h in let r = facts.nonempty i q.0 q.1 in (r.0, subst (λ (z : Part T MarkerTree). IsIn cmp z r.0) (sym q.2) r.1)

    chosen : (i : ℕ) (e : Part T MarkerTree) → IsEdge i e → (v : Valuation) × (e.value ≡ selected v) × IsIn cmp e (place v)
    chosen i e h =
        let r = some_point i e h in
        let u : IsIn cmp e (place (valued r.0)) = subst (IsIn cmp e) (sym (back r.0)) r.1 in
        (valued r.0, edge_selected i e (valued r.0) h u, u)

    next_differs : (i : ℕ) (e f : Part T MarkerTree) → IsEdge i e → IsEdge (i + 1) f → e.value ≢ f.value
    next_differs i e f h k same =
        let v = chosen i e h in
        let w = chosen (i + 1) f k in
        selected_differ v.0 w.0
        (numbered w.0 ∙ inside (i + 1) f (place w.0) k w.2 ∙ ap (λ j. j + 1) (sym (numbered v.0 ∙ inside i e (place v.0) h v.2)))
        (sym v.1 ∙ same ∙ w.1)

    edges_mean : AreEdges cmp place c t (variable n) (map (under t) parts)
    edges_mean = record {
      first = first_is;
      covers = λ p. let q = facts.covers p in (piece_at p, under t q.0, edge_of (piece_at p) q.0 q.1, q.2);
      apart = λ i j e f p h k u w. sym (inside i e p h u) ∙ inside j f p k w;
      nonempty = some_point;
      ascending = λ i j e f p q h k l u w.
          let m : piece_at p ≡ i = inside i e p h u in
          let k' : piece_at q ≡ j = inside j f q k w in
          facts.ascending p q (omega arith);
      behind = λ i e h. let v = chosen i e h in subst (IsBehind c t (variable n)) (sym v.1) (selected_behind v.0);
      means = λ i e v h u. subst (IsFixed c t (variable n) v) (sym (edge_selected i e v h u)) (selected_means v);
      here = λ i e v h u. selected_here v ∙ ap (λ s. truth c s v) (sym (edge_selected i e v h u));
      neighbors = next_differs;
    }

-- ---- versions, texts and truths

-- the bytes of a text's bounds may be taken before the sign or after it
pub under_bytes : (t : MarkerTree) (ps : List (Part (String Global) NodeId)) → map (under t) (map (λ p. by_bytes p) ps) ≡ map (λ p. by_bytes (under t p)) ps
under_bytes t [] = refl
under_bytes t (p ∷ ps) = ap (λ qs. under t (by_bytes p) ∷ qs) (under_bytes t ps)

module _ (c : Contents) (store : IsStore markers c.nodes) (t : MarkerTree) (held : IsHeld c t) where
  pub version_edges_mean : (x : VersionVariable) (e : Cuts Parts NodeId _ _ _) → node_of c t ≡ Some (Version x e) → AreEdges version_cmp (λ v. v.version x) c t (of_version x) (map (under t) (parts_of e))
  version_edges_mean x e node =
      let pieces = are_pieces version_cmp version_total e e.ascending (omega (arith, e.rest.ok.0)) in
      edges_mean c store t held (Version x e) node version_cmp (λ v. v.version x) at_version (λ p. refl)
      (piece_of version_cmp e) (value_of version_cmp e) (λ v. refl) (λ v. refl) (parts_of e)
      (record { covers = pieces.covers; apart = pieces.apart; nonempty = pieces.nonempty; ascending = pieces.ascending })

  pub string_edges_mean : (x : TextVariable) (e : Cuts (String Global) NodeId _ _ _) → node_of c t ≡ Some (Text x e) → AreEdges text_cmp (λ v. v.text x) c t (of_text x) (map (λ p. by_bytes (under t p)) (parts_of e))
  string_edges_mean x e node =
      subst (AreEdges text_cmp (λ v. v.text x) c t (of_text x)) (under_bytes t (parts_of e))
      (edges_mean c store t held (Text x e) node text_cmp (λ v. v.text x) at_text (λ p. refl)
      (piece_by string_bytes text_cmp e) (value_by string_bytes text_cmp e) (λ v. refl) (λ v. refl) (map (λ p. by_bytes p) (parts_of e))
      (text_parts e e.ascending (omega (arith, e.rest.ok.0))))

  pub boolean_edges_mean : (x : TruthVariable) (high low : MarkerTree) → AsksForTruth c t x high low → AreBooleanEdges c t x high low
  boolean_edges_mean x high low h =
      let n : Node = Truth x h.0 h.1 in
      let node : node_of c t ≡ Some n = h.2 in
      let high_is : (v : Valuation) → answer x v ≡ true → selected c store t held n node v ≡ high = λ v e. ap (λ b. child_of t (cond b h.0 h.1)) e ∙ sym h.3 in
      let low_is : (v : Valuation) → answer x v ≡ false → selected c store t held n node v ≡ low = λ v e. ap (λ b. child_of t (cond b h.0 h.1)) e ∙ sym h.4 in
      record {
        first = first_is c store t held n node;
        high_behind = subst (IsBehind c t (truth_variable x)) (high_is lowest (answer_lowest x)) (selected_behind c store t held n node lowest);
        low_behind = subst (IsBehind c t (truth_variable x)) (low_is denied (answer_denied x)) (selected_behind c store t held n node denied);
        high_means = λ v e. subst (IsFixed c t (truth_variable x) v) (high_is v e) (selected_means c store t held n node v);
        low_means = λ v e. subst (IsFixed c t (truth_variable x) v) (low_is v e) (selected_means c store t held n node v);
        high_here = λ v e. selected_here c store t held n node v ∙ ap (λ s. truth c s v) (high_is v e);
        low_here = λ v e. selected_here c store t held n node v ∙ ap (λ s. truth c s v) (low_is v e);
        differ = λ same. selected_differ c store t held n node lowest denied
            (ap (λ b. cond b 0 1) (answer_denied x) ∙ ap (λ b. cond b 0 1 + 1) (sym (answer_lowest x)))
            (high_is lowest (answer_lowest x) ∙ same ∙ sym (low_is denied (answer_denied x)));
      }

  -- the edges of each kind
  pub edges_of_kind : (kind : MarkerTreeKind) → IsKind c t kind → AreItsEdges c t kind
  edges_of_kind kinds.True h = tt
  edges_of_kind kinds.False h = tt
  edges_of_kind (kinds.Version view) h =
      subst (λ z. AreEdges version_cmp (λ v. v.version view.variable) c t (of_version view.variable) (map (under z) (parts_of view.cuts.now))) (sym h.1) (version_edges_mean view.variable view.cuts.now h.0)
  edges_of_kind (kinds.String view) h =
      subst (λ z. AreEdges text_cmp (λ v. v.text view.variable) c t (of_text view.variable) (map (λ p. by_bytes (under z p)) (parts_of view.cuts.now))) (sym h.1) (string_edges_mean view.variable view.cuts.now h.0)
  edges_of_kind (kinds.In view) h = boolean_edges_mean (questions.In view.variable view.text.now) view.high view.low h
  edges_of_kind (kinds.Contains view) h = boolean_edges_mean (questions.Contains view.variable view.text.now) view.high view.low h
  edges_of_kind (kinds.Extra view) h = boolean_edges_mean (extra_question view.name) view.high view.low h

-- a kind of a substring test or an extra shows the node that branches on it
pub truth_shown : (c : Contents) (t : MarkerTree) (x : TruthVariable) (so other : NodeId) (high low : MarkerTree) (kind : MarkerTreeKind) → node_of c t ≡ Some (Truth x so other) → high ≡ child_of t so → low ≡ child_of t other →
    IsKindOfTruth x high low kind → IsKind c t kind
truth_shown c t x so other high low kinds.True e f g h = absurd h
truth_shown c t x so other high low kinds.False e f g h = absurd h
truth_shown c t x so other high low (kinds.Version view) e f g h = absurd h
truth_shown c t x so other high low (kinds.String view) e f g h = absurd h
truth_shown c t x so other high low (kinds.In view) e f g h = (so, other, e ∙ ap (λ y. Some (Truth y so other)) h.0, h.1 ∙ f, h.2 ∙ g)
truth_shown c t x so other high low (kinds.Contains view) e f g h = (so, other, e ∙ ap (λ y. Some (Truth y so other)) h.0, h.1 ∙ f, h.2 ∙ g)
truth_shown c t x so other high low (kinds.Extra view) e f g h = (so, other, e ∙ ap (λ y. Some (Truth y so other)) h.0, h.1 ∙ f, h.2 ∙ g)

-- what an interner holds is what its view says
pub store_seen : (c d : Contents) → d ≡ c → IsStore markers d.nodes → IsStore markers c.nodes
store_seen c d e h = subst (λ (x : Contents). IsStore markers x.nodes) e h
