-- The walk over the nodes of a marker.
use Rattle.std.proofs.Common.{◌≡◌, ◌⊎◌, inl, inr, ℕ, zero, suc, ◌+◌, ◌<◌, ◌≤◌, List, [], ◌∷◌, ◌++◌, append_assoc, append-nil, length, length-append, map, Some, None, refl, sym, ap, ◌∙◌, subst, arith}
use Rattle.std.specs.Prelude.{slice_get}
use Rattle.std.proofs.lemmas.List.{map-append}
use Rattle.marker_diagrams.specs.declared.node_id.NodeId.{NodeId}
use Rattle.marker_diagrams.specs.Residue as residue
use Rattle.marker_diagrams.proofs.NodeLaws.{none_some, same_some}
use Rattle.marker_diagrams.proofs.ResidueLaws.{subtree_both}
use Rattle.marker_nodes.specs.Node.{Node, markers}
use Rattle.marker_graph.specs.declared.kind.MarkerTreeKind.{MarkerTreeKind}
use Rattle.marker_graph.specs.declared.tree.MarkerTree.{MarkerTree}
use Rattle.marker_graph.specs.Contents.{Contents, IsHeld}
use Rattle.marker_graph.specs.Kind.{IsKind}
use Rattle.marker_graph.specs.Tree.{IsSubtree}
use Rattle.marker_graph.proofs.ShownLaws.{made}
use Rattle.marker_drawings.specs.declared.drawing.DrawnNode.{DrawnNode}
use Rattle.marker_drawings.specs.declared.drawing.Drawing.{Drawing}
use Rattle.marker_drawings.specs.declared.drawing.Target.{Target}
use Rattle.marker_drawings.specs.declared.drawing.Target.TheVariants as targets
use Rattle.marker_drawings.specs.Drawing.{HasNode, LeadsTo, IsDrawn, IsDrawing, AreNodesOf, trees_of}
use Rattle.marker_drawings.specs.Numbering.{Has, IsOnce, Numbers, Draws}
use Rattle.marker_drawings.specs.Pairwise.{Pairwise, no_more, pair}
use Rattle.marker_drawings.proofs.ListLaws.{get_front, has_front, has_split, last_or_before, map_at, no_rest, past_front}
use Rattle.marker_drawings.proofs.KindLaws.{below, child_led, has_node}
use Rattle.marker_drawings.proofs.NumberLaws.{leads_still}
use Rattle.marker_drawings.proofs.PairLaws.{pairs_still}

-- The list has markers of the marker's nodes, the first of which are drawn.
pub record Walks (c : Contents) (t : MarkerTree) (found : List MarkerTree) (begin : Target) (nodes : List DrawnNode) : Type 0 where
  pub root : LeadsTo found begin t
  pub first : HasNode t → slice_get found 0 ≡ Some t
  pub each : (i : ℕ) (s : MarkerTree) → slice_get found i ≡ Some s → IsSubtree c t s × HasNode s
  pub held : (i : ℕ) (s : MarkerTree) → slice_get found i ≡ Some s → IsHeld c s
  pub once : IsOnce found
  pub rest : List MarkerTree
  pub split : found ≡ trees_of nodes ++ rest
  pub drawn : (i : ℕ) (n : DrawnNode) → slice_get nodes i ≡ Some n → IsDrawn c found n

-- ---- the beginning
head_of : {R : Target → MarkerTree → Type 0} {g : Target} {t : MarkerTree} → Pairwise R (g ∷ []) (t ∷ []) → R g t
head_of (pair g t r p) = r

only : (x t : MarkerTree) (i : ℕ) → slice_get (x ∷ []) i ≡ Some t → t ≡ x
only x t zero e = sym (same_some x t e)
only x t (suc i) e = none_some t e

all_same : (t : MarkerTree) (ts : List MarkerTree) → ((s : MarkerTree) → Has ts s → s ≡ t) → (i : ℕ) → slice_get ts i ≡ Some t → slice_get ts 0 ≡ Some t
all_same t [] f i e = none_some t e
all_same t (s ∷ ts) f i e = ap Some (f s (0, refl))

pub walks_first : (c : Contents) (t : MarkerTree) (old found : List MarkerTree) (root : Target) (nodes : List DrawnNode) → old ≡ [] → nodes ≡ [] → IsHeld c t → Numbers old found (t ∷ []) (root ∷ []) → Walks c t found root nodes
walks_first c t old found root nodes e empty h n = record {
  root = head_of n.leads;
  first = first root (head_of n.leads);
  each = λ i s f. let p = added s (i, f) in (subst (IsSubtree c t) (sym p.0) residue.itself, p.1);
  held = λ i s f. let p = added s (i, f) in subst (IsHeld c) (sym p.0) h;
  once = n.once (λ i j s f k. none_some s (sym (ap (λ l. slice_get l i) e) ∙ f));
  rest = found;
  split = ap (λ (ns : List DrawnNode). trees_of ns ++ found) (sym empty);
  drawn = λ i m f. none_some m (sym (ap (λ l. slice_get l i) empty) ∙ f);
}
  where
    is_more : found ≡ n.more
    is_more = n.grew ∙ ap (λ l. l ++ n.more) e

    added : (s : MarkerTree) → Has found s → (s ≡ t) × HasNode s
    added s k = let p = n.each s (k.0, sym (ap (λ l. slice_get l k.0) is_more) ∙ k.1) in (only t s p.0.0 p.0.1, p.1)

    first : (g : Target) → LeadsTo found g t → HasNode t → slice_get found 0 ≡ Some t
    first targets.True l k = absurd (k.0 l)
    first targets.False l k = absurd (k.1 l)
    first (targets.Node i) l k = all_same t found (λ s m. (added s m).0) i l

-- ---- one more node
pub length_trees : (ns : List DrawnNode) → length (trees_of ns) ≡ length ns
length_trees [] = refl
length_trees (m ∷ ns) = ap suc (length_trees ns)

pub walks_node : (c : Contents) (t next : MarkerTree) (old new : List MarkerTree) (root : Target) (nodes more : List DrawnNode) (n : DrawnNode) (index : ℕ) → length nodes ≡ index → slice_get old index ≡ Some next →
    Draws c next old new n → more ≡ nodes ++ n ∷ [] → Walks c t old root nodes → Walks c t new root more
walks_node c t next old new root nodes more n index count at d push w = record {
  root = leads_still old new d.numbers.more d.numbers.grew root t w.root;
  first = λ h. ap (λ l. slice_get l 0) d.numbers.grew ∙ get_front old d.numbers.more 0 t (w.first h);
  each = each;
  held = held;
  once = d.numbers.once w.once;
  rest = after.0 ++ d.numbers.more;
  split = split;
  drawn = λ i m f. elim (last_or_before nodes n i m (sym (ap (λ l. slice_get l i) push) ∙ f)) [
    | inl g ↦ let k = w.drawn i m g in (k.0, k.1, pairs_still (leads_still old new d.numbers.more d.numbers.grew) k.2)
    | inr g ↦ let P : DrawnNode → Type 0 = λ x. IsDrawn c new x in subst P (sym g) (d.kind, subst (λ s. IsKind c s d.kind) (sym d.tree) d.is, d.numbers.leads)
  ];
}
  where
    came : (i : ℕ) (s : MarkerTree) → slice_get new i ≡ Some s → Has old s ⊎ Has d.numbers.more s
    came i s f = has_split old d.numbers.more s i (sym (ap (λ l. slice_get l i) d.numbers.grew) ∙ f)

    each : (i : ℕ) (s : MarkerTree) → slice_get new i ≡ Some s → IsSubtree c t s × HasNode s
    each i s f = elim (came i s f) [
      | inl h ↦ w.each h.0 s h.1
      | inr h ↦ let p = d.numbers.each s h in (subtree_both markers c.nodes t.id next.id s.id (w.each index next at).0 (below c next d.kind d.edges s p.0).0, p.1)
    ]

    held : (i : ℕ) (s : MarkerTree) → slice_get new i ≡ Some s → IsHeld c s
    held i s f = elim (came i s f) [ inl h ↦ w.held h.0 s h.1 | inr h ↦ (below c next d.kind d.edges s (d.numbers.each s h).0).1 ]

    after : (rest : List MarkerTree) × (w.rest ≡ next ∷ rest)
    after = past_front (trees_of nodes) w.rest index next (sym (ap (λ l. slice_get l index) w.split) ∙ at) (sym (length_trees nodes ∙ count))

    trees_more : trees_of more ≡ trees_of nodes ++ next ∷ []
    trees_more = ap trees_of push ∙ map-append (λ (m : DrawnNode). m.tree) nodes (n ∷ []) ∙ ap (λ s. trees_of nodes ++ s ∷ []) d.tree

    split : new ≡ trees_of more ++ (after.0 ++ d.numbers.more)
    split =
        d.numbers.grew ∙ ap (λ l. l ++ d.numbers.more) (w.split ∙ ap (λ l. trees_of nodes ++ l) after.1 ∙ sym (append_assoc (trees_of nodes) (next ∷ []) after.0))
        ∙ append_assoc (trees_of nodes ++ next ∷ []) after.0 d.numbers.more ∙ ap (λ l. l ++ (after.0 ++ d.numbers.more)) (sym trees_more)

-- ---- the end
pub walked : (c : Contents) (t : MarkerTree) (found : List MarkerTree) (root : Target) (nodes : List DrawnNode) (d : Drawing) → d.root ≡ root → d.nodes.items ≡ nodes → length found ≤ length nodes → Walks c t found root nodes → IsDrawing c t d
walked c t found root nodes d is_root is_nodes l w =
    let P : List MarkerTree → Type 0 = λ ts. AreNodesOf c t ts in
    let R : List MarkerTree → Type 0 = λ ts. LeadsTo ts d.root t in
    record {
      root = subst R trees (subst (λ g. LeadsTo found g t) (sym is_root) w.root);
      nodes = subst P trees (record { first = w.first; all = λ s h k. all s.id h k; each = w.each; once = w.once });
      drawn = λ i n f. let Q : List MarkerTree → Type 0 = λ ts. IsDrawn c ts n in subst Q trees (w.drawn i n (sym (ap (λ ns. slice_get ns i) is_nodes) ∙ f));
    }
  where
    same : found ≡ trees_of nodes
    same =
        let f : length found ≡ length (trees_of nodes ++ w.rest) = ap length w.split in
        let g : length (trees_of nodes) ≡ length nodes = length_trees nodes in
        w.split ∙ ap (λ r. trees_of nodes ++ r) (no_rest (trees_of nodes) w.rest (omega arith)) ∙ append-nil (trees_of nodes)

    trees : found ≡ trees_of d.nodes.items
    trees = same ∙ ap trees_of (sym is_nodes)

    at_target : (g : Target) (z : MarkerTree) → LeadsTo found g z → HasNode z → Has found z
    at_target targets.True z r k = absurd (k.0 r)
    at_target targets.False z r k = absurd (k.1 r)
    at_target (targets.Node i) z r k = (i, r)

    found_at : {gs : List Target} {ts : List MarkerTree} → Pairwise (LeadsTo found) gs ts → (i : ℕ) (z : MarkerTree) → slice_get ts i ≡ Some z → HasNode z → Has found z
    found_at no_more i z e k = none_some z e
    found_at (pair g y r p) zero z e k = at_target g z (subst (LeadsTo found g) (same_some y z e) r) k
    found_at (pair g y r p) (suc i) z e k = found_at p i z e k

    all : (x : NodeId) → residue.IsSubtree markers c.nodes t.id x → HasNode (made x) → Has found (made x)
    all _ residue.itself k = (0, w.first k)
    all _ (residue.child s u n v h e f) k =
        let has : HasNode (made s) = has_node c (made s) n e in
        let p = all s h has in
        let q = map_at (λ (m : DrawnNode). m.tree) nodes p.0 (made s) (sym (ap (λ ts. slice_get ts p.0) same) ∙ p.1) in
        let b = w.drawn p.0 q.0 q.1 in
        let kind_is : IsKind c (made s) b.0 = subst (λ z. IsKind c z b.0) q.2 b.1 in
        let led = child_led c (made s) b.0 kind_is has n e v in
        found_at b.2 led.0 (made u) (led.1 ∙ ap (λ (z : NodeId). Some (made z)) (sym f)) k
