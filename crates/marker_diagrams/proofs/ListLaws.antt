-- Lists of exactly the subtrees of an id.
use Rattle.std.proofs.Common.{◌≡◌, ℕ, zero, suc, ◌<◌, ◌≤◌, Bool, true, false, ◌||◌, List, [], ◌∷◌, Option, Some, None, ◌⊎◌, inl, inr, refl, sym, ap, ◌∙◌, subst, arith}
use Rattle.std.specs.Prelude.{slice_get}
use Rattle.std.specs.List.{list_any}
use Rattle.std.proofs.lemmas.Bool.{true≢false, false≢true}
use Rattle.marker_diagrams.specs.declared.node_id.NodeId.{NodeId}
use Rattle.marker_diagrams.specs.Id.{place_of, is_negated, signed_id, same_id}
use Rattle.marker_diagrams.specs.Diagram.{NodeKind, node_of}
use Rattle.marker_diagrams.specs.Residue.{IsSubtree, itself, child, AreExactly, AreChildrenOf}
use Rattle.marker_diagrams.proofs.IdLaws.{same_id_is, same_id_itself}
use Rattle.marker_diagrams.proofs.NodeLaws.{Descends, same_some, none_some}
use Rattle.marker_diagrams.proofs.ResidueLaws.{subtree_both}

-- the id is in the list
abbrev IsIn : NodeId → List NodeId → Type 0
IsIn s ids = (i : ℕ) × (slice_get ids i ≡ Some s)

is_in : (s : NodeId) (ids : List NodeId) → list_any (same_id s) ids ≡ true → IsIn s ids
is_in s [] e = absurd (false≢true e)
is_in s (a ∷ ids) e = by_test (same_id s a) refl (is_in s ids)
  where
    by_test : (z : Bool) → same_id s a ≡ z → (list_any (same_id s) ids ≡ true → IsIn s ids) → IsIn s (a ∷ ids)
    by_test true f rest = (0, ap Some (sym (same_id_is s a f)))
    by_test false f rest = let r = rest (sym (ap (λ z. z || list_any (same_id s) ids) f) ∙ e) in (suc r.0, r.1)

is_found : (s : NodeId) (ids : List NodeId) (i : ℕ) → slice_get ids i ≡ Some s → list_any (same_id s) ids ≡ true
is_found s [] i e = none_some s e
is_found s (a ∷ ids) zero e = ap (λ z. z || list_any (same_id s) ids) (ap (same_id s) (same_some a s e) ∙ same_id_itself s)
is_found s (a ∷ ids) (suc i) e = grind (arith, is_found s ids i e)

-- the same ids are such and such
exactly_same : (P Q : NodeId → Type 0) (ids : List NodeId) → ((s : NodeId) → P s → Q s) → ((s : NodeId) → Q s → P s) → AreExactly P ids → AreExactly Q ids
exactly_same P Q ids there back e = record { all = λ s q. e.all s (back s q); each = λ i s f. there s (e.each i s f); once = e.once }

-- none is
exactly_none : AreExactly (λ s. ⊥) []
exactly_none = record { all = λ s p. absurd p; each = λ i s e. none_some s e; once = λ i j s e f. none_some s e }

-- one more
module _ (P : NodeId → Type 0) (a : NodeId) (ids : List NodeId) (e : AreExactly P ids) where
  abbrev More : NodeId → Type 0
  More s = P s ⊎ (s ≡ a)

  more_new : list_any (same_id a) ids ≡ false → AreExactly More (a ∷ ids)
  more_new absent = record {
    all = λ s p. elim p [ inl h ↦ (let r = e.all s h in (suc r.0, r.1)) | inr h ↦ (0, ap Some (sym h)) ];
    each = each;
    once = once;
  }
    where
      each : (i : ℕ) (s : NodeId) → slice_get (a ∷ ids) i ≡ Some s → More s
      each zero s f = inr (sym (same_some a s f))
      each (suc i) s f = inl (e.each i s f)

      not_there : (i : ℕ) → slice_get ids i ≡ Some a → ⊥
      not_there i f = true≢false (sym (is_found a ids i f) ∙ absent)

      once : (i j : ℕ) (s : NodeId) → slice_get (a ∷ ids) i ≡ Some s → slice_get (a ∷ ids) j ≡ Some s → i ≡ j
      once zero zero s f g = refl
      once zero (suc j) s f g = absurd (not_there j (g ∙ sym f))
      once (suc i) zero s f g = absurd (not_there i (f ∙ sym g))
      once (suc i) (suc j) s f g = ap suc (e.once i j s f g)

  more_known : list_any (same_id a) ids ≡ true → AreExactly More ids
  more_known h1 = grind (arith, exactly_same, is_in)

  one_more : (more : List NodeId) × AreExactly More more
  one_more = grind (arith, more_known, more_new)

-- those of one list and of another
both : (P : NodeId → Type 0) (ids others : List NodeId) → AreExactly P ids → (all : List NodeId) × AreExactly (λ s. P s ⊎ IsIn s others) all
both P ids [] e = (ids, exactly_same P (λ s. P s ⊎ IsIn s []) ids (λ s p. inl p) (λ s p. elim p [ inl h ↦ h | inr h ↦ none_some s h.1 ]) e)
both P ids (a ∷ others) e =
    let r = both P ids others e in
    let m = one_more (λ s. P s ⊎ IsIn s others) a r.0 r.1 in
    (m.0, exactly_same (λ s. (P s ⊎ IsIn s others) ⊎ (s ≡ a)) (λ s. P s ⊎ IsIn s (a ∷ others)) m.0 there back m.1)
  where
    there : (s : NodeId) → (P s ⊎ IsIn s others) ⊎ (s ≡ a) → P s ⊎ IsIn s (a ∷ others)
    there s (inl (inl p)) = inl p
    there s (inl (inr h)) = inr (suc h.0, h.1)
    there s (inr h) = inr (0, ap Some (sym h))

    back : (s : NodeId) → P s ⊎ IsIn s (a ∷ others) → (P s ⊎ IsIn s others) ⊎ (s ≡ a)
    back s (inl p) = inl (inl p)
    back s (inr (zero, f)) = inr (sym (same_some a s f))
    back s (inr (suc i, f)) = inl (inr (i, f))

module _ {N X V : Type 0} (kind : NodeKind N X V) (nodes : List N) (descends : Descends kind nodes) (lists : (n : N) → (children : List NodeId) × AreChildrenOf kind n children) where
  -- the subtrees of some of the children of an id
  abbrev IsBelow : NodeId → List NodeId → NodeId → Type 0
  IsBelow t children s = (u : NodeId) × IsIn u children × IsSubtree kind nodes (signed_id (is_negated t) u) s

  below : (t : NodeId) (children : List NodeId) → ((u : NodeId) → IsIn u children → (ids : List NodeId) × AreExactly (IsSubtree kind nodes (signed_id (is_negated t) u)) ids) → (ids : List NodeId) × AreExactly (IsBelow t children) ids
  below t [] h = ([], exactly_same (λ s. ⊥) (IsBelow t []) [] (λ s p. absurd p) (λ s p. none_some p.0 p.1.1) exactly_none)
  below t (c ∷ children) h =
      let rest = below t children (λ u i. h u (suc i.0, i.1)) in
      let first = h c (0, refl) in
      let r = both (IsBelow t children) rest.0 first.0 rest.1 in
      (r.0, exactly_same (λ s. IsBelow t children s ⊎ IsIn s first.0) (IsBelow t (c ∷ children)) r.0 (there first.0 first.1) (back first.0 first.1) r.1)
    where
      there : (ids : List NodeId) → AreExactly (IsSubtree kind nodes (signed_id (is_negated t) c)) ids → (s : NodeId) → IsBelow t children s ⊎ IsIn s ids → IsBelow t (c ∷ children) s
      there ids e s (inl p) = (p.0, (suc p.1.0, p.1.1), p.2)
      there ids e s (inr i) = (c, (0, refl), e.each i.0 s i.1)

      back : (ids : List NodeId) → AreExactly (IsSubtree kind nodes (signed_id (is_negated t) c)) ids → (s : NodeId) → IsBelow t (c ∷ children) s → IsBelow t children s ⊎ IsIn s ids
      back ids e s (u, (zero, f), sub) = inr (e.all s (subst (λ w. IsSubtree kind nodes (signed_id (is_negated t) w) s) (sym (same_some c u f)) sub))
      back ids e s (u, (suc i, f), sub) = inl (u, (i, f), sub)

  -- a subtree is the id itself, or one of a child
  subtree_cases : (t s : NodeId) → IsSubtree kind nodes t s → (s ≡ t) ⊎ ((n : N) × (v : V) × (node_of nodes t ≡ Some n) × IsSubtree kind nodes (signed_id (is_negated t) (kind.pick n v)) s)
  subtree_cases t s itself = inl refl
  subtree_cases t s (child r _ n v h e f) = by_cases (subtree_cases t r h)
    where
      by_cases : (r ≡ t) ⊎ ((m : N) × (w : V) × (node_of nodes t ≡ Some m) × IsSubtree kind nodes (signed_id (is_negated t) (kind.pick m w)) r) →
          (s ≡ t) ⊎ ((m : N) × (w : V) × (node_of nodes t ≡ Some m) × IsSubtree kind nodes (signed_id (is_negated t) (kind.pick m w)) s)
      by_cases (inl g) = inr (n, v, ap (node_of nodes) (sym g) ∙ e, subst (IsSubtree kind nodes (signed_id (is_negated t) (kind.pick n v))) (sym (f ∙ ap (λ u. signed_id (is_negated u) (kind.pick n v)) g)) itself)
      by_cases (inr p) = inr (p.0, p.1, p.2, child r s n v p.3 e f)

  -- the subtrees of an id can be listed
  alone : (t : NodeId) → ((n : N) (v : V) → node_of nodes t ≡ Some n → ⊥) → AreExactly (IsSubtree kind nodes t) (t ∷ [])
  alone t no_node = exactly_same (λ s. ⊥ ⊎ (s ≡ t)) (IsSubtree kind nodes t) (t ∷ []) there back (more_new (λ s. ⊥) t [] exactly_none refl)
    where
      there : (s : NodeId) → ⊥ ⊎ (s ≡ t) → IsSubtree kind nodes t s
      there s (inl p) = absurd p
      there s (inr e) = subst (IsSubtree kind nodes t) (sym e) itself

      back : (s : NodeId) → IsSubtree kind nodes t s → ⊥ ⊎ (s ≡ t)
      back s sub = elim (subtree_cases t s sub) [ inl e ↦ inr e | inr p ↦ inl (no_node p.0 p.1 p.2) ]

  with_below : (t : NodeId) (n : N) → node_of nodes t ≡ Some n → (children : List NodeId) → AreChildrenOf kind n children →
      (rest : List NodeId) × AreExactly (IsBelow t children) rest → (ids : List NodeId) × AreExactly (IsSubtree kind nodes t) ids
  with_below t n e children of_n rest =
      let m = one_more (IsBelow t children) t rest.0 rest.1 in
      (m.0, exactly_same (λ s. IsBelow t children s ⊎ (s ≡ t)) (IsSubtree kind nodes t) m.0 there back m.1)
    where
      there : (s : NodeId) → IsBelow t children s ⊎ (s ≡ t) → IsSubtree kind nodes t s
      there s (inl (u, i, sub)) =
          let p = of_n.each i.0 u i.1 in
          subtree_both kind nodes t (signed_id (is_negated t) u) s (child t (signed_id (is_negated t) u) n p.0 itself e (ap (signed_id (is_negated t)) (sym p.1))) sub
      there s (inr f) = subst (IsSubtree kind nodes t) (sym f) itself

      back : (s : NodeId) → IsSubtree kind nodes t s → IsBelow t children s ⊎ (s ≡ t)
      back s sub = elim (subtree_cases t s sub) [
        | inl f ↦ inr f
        | inr p ↦
            let i = of_n.all p.1 in
            let same : p.0 ≡ n = same_some p.0 n (sym p.2 ∙ e) in
            inl (kind.pick n p.1, i, subst (λ m. IsSubtree kind nodes (signed_id (is_negated t) (kind.pick m p.1)) s) same p.3)
      ]

  listed_to : (k : ℕ) (t : NodeId) → place_of t ≤ k → (ids : List NodeId) × AreExactly (IsSubtree kind nodes t) ids
  listed_to zero t h = (t ∷ [], alone t (λ n v e. let l : place_of (kind.pick n v) < place_of t = descends (place_of t) n e v in omega arith))
  listed_to (suc k) t h = by_node (node_of nodes t) refl (λ u. listed_to k u)
    where
      by_node : (o : Option N) → node_of nodes t ≡ o → ((u : NodeId) → place_of u ≤ k → (ids : List NodeId) × AreExactly (IsSubtree kind nodes u) ids) → (ids : List NodeId) × AreExactly (IsSubtree kind nodes t) ids
      by_node None e rest = (t ∷ [], alone t (λ n v f. none_some n (sym e ∙ f)))
      by_node (Some n) e rest =
          let children = lists n in
          with_below t n e children.0 children.1 (below t children.0 (λ u i.
          let p = children.1.each i.0 u i.1 in
          let l : place_of (kind.pick n p.0) < place_of t = descends (place_of t) n e p.0 in
          let q : place_of (kind.pick n p.0) ≡ place_of u = ap place_of p.1 in
          rest (signed_id (is_negated t) u) (omega arith)))

  pub listed : (t : NodeId) → (ids : List NodeId) × AreExactly (IsSubtree kind nodes t) ids
  listed t = listed_to (place_of t) t (omega arith)
