-- Lists of ids without repetitions that grow at their end.
use Rattle.std.proofs.Common.{◌≡◌, ℕ, zero, suc, ◌+◌, ◌<◌, ◌≤◌, Bool, true, false, cond, ◌||◌, List, [], ◌∷◌, ◌++◌, length, Some, ◌⊎◌, inl, inr, refl, sym, ap, subst, ◌∙◌, arith, length-append}
use Rattle.std.specs.Prelude.{slice_get, if◌then◌else◌}
use Rattle.std.specs.List.{list_any}
use Rattle.std.proofs.lemmas.Bool.{true≢false, false≢true, eqb-true, eq-eqb, ne_eqb}
use Rattle.std.proofs.lemmas.Option.{slice_get_within}
use lib.Dec.{eqb}
use Rattle.marker_diagrams.specs.declared.node_id.NodeId.{NodeId}
use Rattle.marker_diagrams.specs.Id.{same_id}
use Rattle.marker_diagrams.proofs.IdLaws.{same_id_is, same_id_itself}
use Rattle.marker_diagrams.proofs.KeyLaws.{get_last}
use Rattle.marker_diagrams.proofs.NodeLaws.{same_some, none_some}
use Rattle.marker_walks.specs.Subtrees.{Has, IsOnce}

-- The list has the id x now, and nothing else is new.
pub record Grows (old : List NodeId) (x : NodeId) (new : List NodeId) : Type 0 where
  pub longer : length old ≤ length new
  pub stays : (i : ℕ) (id : NodeId) → slice_get old i ≡ Some id → slice_get new i ≡ Some id
  pub each : (i : ℕ) (id : NodeId) → slice_get new i ≡ Some id → Has old id ⊎ (id ≡ x)
  pub has : Has new x
  pub once : IsOnce old → IsOnce new

found_by : (x y : NodeId) (ids : List NodeId) → list_any (same_id x) (y ∷ ids) ≡ true → (list_any (same_id x) ids ≡ true → Has ids x) → (b : Bool) → same_id x y ≡ b → Has (y ∷ ids) x
found_by x y ids e later true f = (0, ap Some (sym (same_id_is x y f)))
found_by x y ids e later false f = let p = later (sym (ap (λ b. b || list_any (same_id x) ids) f) ∙ e) in (suc p.0, p.1)

found_at : (x : NodeId) (ids : List NodeId) → list_any (same_id x) ids ≡ true → Has ids x
found_at x [] e = absurd (false≢true e)
found_at x (y ∷ ids) e = found_by x y ids e (found_at x ids) (same_id x y) refl

missing_by : (x y : NodeId) (ids : List NodeId) → list_any (same_id x) (y ∷ ids) ≡ false → (b : Bool) → same_id x y ≡ b → list_any (same_id x) ids ≡ false
missing_by x y ids h1 b h2 = grind arith

missing_at : (x : NodeId) (ids : List NodeId) → list_any (same_id x) ids ≡ false → (i : ℕ) → slice_get ids i ≡ Some x → ⊥
missing_at x [] e i f = none_some x f
missing_at x (y ∷ ids) e zero f = true≢false (sym (ap (λ b. b || list_any (same_id x) ids) (ap (same_id x) (same_some y x f) ∙ same_id_itself x)) ∙ e)
missing_at x (y ∷ ids) e (suc i) f = missing_at x ids (missing_by x y ids e (same_id x y) refl) i f

same : (old : List NodeId) (x : NodeId) → Has old x → Grows old x old
same old x h = record { longer = omega arith; stays = λ i id e. e; each = λ i id e. inl (i, e); has = h; once = λ o. o }

one_more : (old : List NodeId) (x : NodeId) → list_any (same_id x) old ≡ false → Grows old x (old ++ x ∷ [])
one_more old x e = record {
  longer = omega (arith, length-append old (x ∷ []));
  stays = stays;
  each = each;
  has = (length old, last);
  once = once;
}
  where
    last : slice_get (old ++ x ∷ []) (length old) ≡ Some x
    last = get_last old x (length old) ∙ ap (λ b. cond b (Some x) (slice_get old (length old))) (eq-eqb (length old) (length old) refl)

    before : (i : ℕ) → i < length old → slice_get (old ++ x ∷ []) i ≡ slice_get old i
    before i l = get_last old x i ∙ ap (λ b. cond b (Some x) (slice_get old i)) (ne_eqb i (length old) (λ f. omega arith))

    stays : (i : ℕ) (id : NodeId) → slice_get old i ≡ Some id → slice_get (old ++ x ∷ []) i ≡ Some id
    stays i id f = before i (slice_get_within old i id f) ∙ f

    where_is : (i : ℕ) (id : NodeId) → slice_get (old ++ x ∷ []) i ≡ Some id → (b : Bool) → eqb i (length old) ≡ b → (slice_get old i ≡ Some id) ⊎ ((i ≡ length old) × (id ≡ x))
    where_is i id f true g = inr (eqb-true i (length old) g, sym (same_some x id (sym (ap (λ b. cond b (Some x) (slice_get old i)) g) ∙ sym (get_last old x i) ∙ f)))
    where_is i id f false g = inl (sym (ap (λ b. cond b (Some x) (slice_get old i)) g) ∙ sym (get_last old x i) ∙ f)

    each : (i : ℕ) (id : NodeId) → slice_get (old ++ x ∷ []) i ≡ Some id → Has old id ⊎ (id ≡ x)
    each i id f = elim (where_is i id f (eqb i (length old)) refl) [ inl h ↦ inl (i, h) | inr h ↦ inr h.1 ]

    two : (i j : ℕ) (id : NodeId) → IsOnce old → (slice_get old i ≡ Some id) ⊎ ((i ≡ length old) × (id ≡ x)) → (slice_get old j ≡ Some id) ⊎ ((j ≡ length old) × (id ≡ x)) → i ≡ j
    two i j id o (inl f) (inl g) = o i j id f g
    two i j id o (inl f) (inr g) = absurd (missing_at x old e i (f ∙ ap Some g.1))
    two i j id o (inr f) (inl g) = absurd (missing_at x old e j (g ∙ ap Some f.1))
    two i j id o (inr f) (inr g) = f.0 ∙ sym g.0

    once : IsOnce old → IsOnce (old ++ x ∷ [])
    once o i j id f g = two i j id o (where_is i id f (eqb i (length old)) refl) (where_is j id g (eqb j (length old)) refl)

-- what an insertion makes of the list
pub grows : (old new : List NodeId) (x : NodeId) → new ≡ (if list_any (same_id x) old then old else old ++ x ∷ []) → Grows old x new
grows old new x e = by_test (list_any (same_id x) old) refl
  where
    to : (b : Bool) → list_any (same_id x) old ≡ b → new ≡ cond b old (old ++ x ∷ [])
    to b f = e ∙ ap (λ c. cond c old (old ++ x ∷ [])) f

    by_test : (b : Bool) → list_any (same_id x) old ≡ b → Grows old x new
    by_test true f = let P : List NodeId → Type 0 = λ k. Grows old x k in subst P (sym (to true f)) (same old x (found_at x old f))
    by_test false f = let P : List NodeId → Type 0 = λ k. Grows old x k in subst P (sym (to false f)) (one_more old x f)
