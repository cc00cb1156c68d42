-- Markers that get numbers, one after another.
use Rattle.std.proofs.Common.{◌≡◌, ℕ, List, [], ◌∷◌, ◌++◌, append_assoc, append-nil, map, Some, ◌⊎◌, inl, inr, true, refl, sym, ap, subst, ◌∙◌}
use Rattle.std.specs.Prelude.{slice_get, if◌then◌else◌}
use Rattle.std.specs.List.{list_any}
use Rattle.std.proofs.lemmas.List.{map-append}
use Rattle.marker_diagrams.specs.declared.node_id.NodeId.{NodeId}
use Rattle.marker_diagrams.specs.Id.{same_id}
use Rattle.marker_diagrams.proofs.IdLaws.{same_id_is, same_id_itself}
use Rattle.marker_diagrams.proofs.NodeLaws.{none_some}
use Rattle.marker_graph.specs.declared.tree.MarkerTree.{MarkerTree}
use Rattle.marker_graph.proofs.ShownLaws.{made}
use Rattle.marker_drawings.specs.declared.drawing.DrawnEdge.{DrawnEdge}
use Rattle.marker_drawings.specs.declared.drawing.Target.{Target}
use Rattle.marker_drawings.specs.declared.drawing.Target.TheVariants.{True, False, Node}
use Rattle.marker_drawings.specs.Drawing.{HasNode, LeadsTo, targets_of}
use Rattle.marker_drawings.specs.Numbering.{Has, IsOnce, Numbers}
use Rattle.marker_drawings.specs.Pairwise.{Pairwise, no_more, pair}
use Rattle.marker_drawings.proofs.GrowthLaws.{Grows, grows}
use Rattle.marker_drawings.proofs.ListLaws.{get_front, has_back, has_front, has_split}
use Rattle.marker_drawings.proofs.PairLaws.{pairs_still, pairs_then}

-- no markers
pub numbers_none : (old : List MarkerTree) → Numbers old old [] []
numbers_none old = record { more = []; grew = sym (append-nil old); each = λ t h. none_some t h.1; once = λ o. o; leads = no_more }

-- a constant
pub numbers_constant : (old : List MarkerTree) (t : MarkerTree) (g : Target) → LeadsTo old g t → Numbers old old (t ∷ []) (g ∷ [])
numbers_constant old t g l = record { more = []; grew = sym (append-nil old); each = λ u h. none_some u h.1; once = λ o. o; leads = pair g t l no_more }

-- a marker with a node
pub numbers_node : (old new : List MarkerTree) (t : MarkerTree) (i : ℕ) → Grows old t new → HasNode t → slice_get new i ≡ Some t → Numbers old new (t ∷ []) (Node i ∷ [])
numbers_node old new t i g h e = record {
  more = g.more;
  grew = g.grew;
  each = λ u k. let f : u ≡ t = g.each u k in ((0, ap Some (sym f)), subst HasNode (sym f) h);
  once = g.once;
  leads = pair (Node i) t e no_more;
}

-- a target stays where the list grows
pub leads_still : (old new more : List MarkerTree) → new ≡ old ++ more → (g : Target) (t : MarkerTree) → LeadsTo old g t → LeadsTo new g t
leads_still old new more s True t e = e
leads_still old new more s False t e = e
leads_still old new more s (Node i) t e = ap (λ l. slice_get l i) s ∙ get_front old more i t e

-- more markers after others
pub numbers_then : (a b c : List MarkerTree) (ts us : List MarkerTree) (gs hs : List Target) → Numbers a b ts gs → Numbers b c us hs → Numbers a c (ts ++ us) (gs ++ hs)
numbers_then a b c ts us gs hs p q = record {
  more = p.more ++ q.more;
  grew = q.grew ∙ ap (λ l. l ++ q.more) p.grew ∙ append_assoc a p.more q.more;
  each = each;
  once = λ o. q.once (p.once o);
  leads = pairs_then (pairs_still (leads_still b c q.more q.grew) p.leads) q.leads;
}
  where
    each : (t : MarkerTree) → Has (p.more ++ q.more) t → Has (ts ++ us) t × HasNode t
    each t h = elim (has_split p.more q.more t h.0 h.1) [
      | inl k ↦ let r = p.each t k in (has_front ts us t r.0, r.1)
      | inr k ↦ let r = q.each t k in (has_back ts us t r.0, r.1)
    ]

-- The first of the subtrees have numbers.
pub record Passed (all left old new : List MarkerTree) (targets : List Target) : Type 0 where
  pub done : List MarkerTree
  pub split : all ≡ done ++ left
  pub numbers : Numbers old new done targets

pub passed_none : (all left old : List MarkerTree) (edges : List DrawnEdge) → left ≡ all → edges ≡ [] → Passed all left old old (targets_of edges)
passed_none all left old edges e f = record { done = []; split = sym e; numbers = subst (λ (es : List DrawnEdge). Numbers old old [] (targets_of es)) (sym f) (numbers_none old) }

pub passed_one : (all left rest : List MarkerTree) (a b c : List MarkerTree) (t : MarkerTree) (edges more : List DrawnEdge) (e : DrawnEdge) → left ≡ t ∷ rest → more ≡ edges ++ e ∷ [] → Numbers b c (t ∷ []) (e.target ∷ []) →
    Passed all left a b (targets_of edges) → Passed all rest a c (targets_of more)
passed_one all left rest a b c t edges more e l m n p = record {
  done = p.done ++ t ∷ [];
  split = p.split ∙ ap (λ x. p.done ++ x) l ∙ sym (append_assoc p.done (t ∷ []) rest);
  numbers = subst (Numbers a c (p.done ++ t ∷ [])) (sym (ap targets_of m ∙ map-append (λ (x : DrawnEdge). x.target) edges (e ∷ []))) (numbers_then a b c p.done (t ∷ []) (targets_of edges) (e.target ∷ []) p.numbers n);
}

pub passed_all : (all left old new : List MarkerTree) (targets : List Target) → left ≡ [] → Passed all left old new targets → Numbers old new all targets
passed_all all left old new targets e p = subst (λ ts. Numbers old new ts targets) (sym (p.split ∙ ap (λ l. p.done ++ l) e ∙ append-nil p.done)) p.numbers

-- two edges
pub numbers_both : (a b c : List MarkerTree) (t u : MarkerTree) (e f : DrawnEdge) (none one two : List DrawnEdge) → none ≡ [] → one ≡ none ++ e ∷ [] → two ≡ one ++ f ∷ [] → Numbers a b (t ∷ []) (e.target ∷ []) → Numbers b c (u ∷ []) (f.target ∷ []) →
    Numbers a c (t ∷ u ∷ []) (targets_of two)
numbers_both a b c t u e f none one two h k l p q =
    let P : List DrawnEdge → Type 0 = λ es. Numbers a c (t ∷ u ∷ []) (targets_of es) in
    subst P (sym (l ∙ ap (λ es. es ++ f ∷ []) (k ∙ ap (λ es. es ++ e ∷ []) h))) (numbers_then a b c (t ∷ []) (u ∷ []) (e.target ∷ []) (f.target ∷ []) p q)

-- a marker with a node that was inserted
pub numbers_inserted : (old new : List MarkerTree) (t k : MarkerTree) (i : ℕ) → new ≡ (if list_any (λ (s : MarkerTree). same_id t.id s.id) old then old else old ++ t ∷ []) → slice_get new i ≡ Some k → same_id t.id k.id ≡ true → HasNode t → Numbers old new (t ∷ []) (Node i ∷ [])
numbers_inserted old new t k i e g s h =
    numbers_node old new t i (grows (λ a b. same_id a.id b.id) (λ x. same_id_itself x.id) old new t e) h (g ∙ ap (λ (x : NodeId). Some (made x)) (sym (same_id_is t.id k.id s)))

-- no edges
pub numbers_empty : (old : List MarkerTree) (edges : List DrawnEdge) → edges ≡ [] → Numbers old old [] (targets_of edges)
numbers_empty old edges e = subst (λ (es : List DrawnEdge). Numbers old old [] (targets_of es)) (sym e) (numbers_none old)
