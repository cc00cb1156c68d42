-- Lists without repetitions that grow at their end.
use Rattle.std.proofs.Common.{◌≡◌, ℕ, zero, suc, ◌+◌, ◌<◌, ◌≤◌, Bool, true, false, cond, ◌||◌, List, [], ◌∷◌, ◌++◌, append-nil, length, Some, None, ◌⊎◌, inl, inr, refl, sym, ap, subst, ◌∙◌, arith}
use Rattle.std.specs.Prelude.{slice_get, if◌then◌else◌}
use Rattle.std.specs.List.{list_any}
use Rattle.std.proofs.lemmas.Bool.{true≢false, false≢true, eqb-true}
use lib.Dec.{eqb}
use Rattle.marker_diagrams.proofs.KeyLaws.{get_last}
use Rattle.marker_diagrams.proofs.NodeLaws.{same_some, none_some}
use Rattle.marker_graph.specs.declared.tree.MarkerTree.{MarkerTree}
use Rattle.marker_drawings.specs.Numbering.{Has, IsOnce}

-- Nothing but the marker is new.
pub record Grows (old : List MarkerTree) (x : MarkerTree) (new : List MarkerTree) : Type 0 where
  pub more : List MarkerTree
  pub grew : new ≡ old ++ more
  pub each : (t : MarkerTree) → Has more t → t ≡ x
  pub once : IsOnce old → IsOnce new

same : (old : List MarkerTree) (x : MarkerTree) → Grows old x old
same old x = record { more = []; grew = sym (append-nil old); each = λ t h. none_some t h.1; once = λ o. o }

module _ (eq : MarkerTree → MarkerTree → Bool) (itself : (x : MarkerTree) → eq x x ≡ true) where
  missing_by : (x y : MarkerTree) (ts : List MarkerTree) → list_any (eq x) (y ∷ ts) ≡ false → (b : Bool) → eq x y ≡ b → list_any (eq x) ts ≡ false
  missing_by x y ts e true g = absurd (true≢false (sym (ap (λ b. b || list_any (eq x) ts) g) ∙ e))
  missing_by x y ts e false g = sym (ap (λ b. b || list_any (eq x) ts) g) ∙ e

  missing_at : (x : MarkerTree) (ts : List MarkerTree) → list_any (eq x) ts ≡ false → (i : ℕ) → slice_get ts i ≡ Some x → ⊥
  missing_at x [] e i f = none_some x f
  missing_at x (y ∷ ts) e zero f = true≢false (sym (ap (λ b. b || list_any (eq x) ts) (ap (eq x) (same_some y x f) ∙ itself x)) ∙ e)
  missing_at x (y ∷ ts) e (suc i) f = missing_at x ts (missing_by x y ts e (eq x y) refl) i f

  only : (x t : MarkerTree) (i : ℕ) → slice_get (x ∷ []) i ≡ Some t → t ≡ x
  only x t zero e = sym (same_some x t e)
  only x t (suc i) e = none_some t e

  one_more : (old : List MarkerTree) (x : MarkerTree) → list_any (eq x) old ≡ false → Grows old x (old ++ x ∷ [])
  one_more old x e = record { more = x ∷ []; grew = refl; each = λ t h. only x t h.0 h.1; once = once }
    where
      where_is : (i : ℕ) (t : MarkerTree) → slice_get (old ++ x ∷ []) i ≡ Some t → (b : Bool) → eqb i (length old) ≡ b → (slice_get old i ≡ Some t) ⊎ ((i ≡ length old) × (t ≡ x))
      where_is i t f true g = inr (eqb-true i (length old) g, sym (same_some x t (sym (ap (λ b. cond b (Some x) (slice_get old i)) g) ∙ sym (get_last old x i) ∙ f)))
      where_is i t f false g = inl (sym (ap (λ b. cond b (Some x) (slice_get old i)) g) ∙ sym (get_last old x i) ∙ f)

      two : (i j : ℕ) (t : MarkerTree) → IsOnce old → (slice_get old i ≡ Some t) ⊎ ((i ≡ length old) × (t ≡ x)) → (slice_get old j ≡ Some t) ⊎ ((j ≡ length old) × (t ≡ x)) → i ≡ j
      two i j t o (inl f) (inl g) = o i j t f g
      two i j t o (inl f) (inr g) = absurd (missing_at x old e i (f ∙ ap Some g.1))
      two i j t o (inr f) (inl g) = absurd (missing_at x old e j (g ∙ ap Some f.1))
      two i j t o (inr f) (inr g) = f.0 ∙ sym g.0

      once : IsOnce old → IsOnce (old ++ x ∷ [])
      once o i j t f g = two i j t o (where_is i t f (eqb i (length old)) refl) (where_is j t g (eqb j (length old)) refl)

  -- what an insertion makes of the list
  pub grows : (old new : List MarkerTree) (x : MarkerTree) → new ≡ (if list_any (eq x) old then old else old ++ x ∷ []) → Grows old x new
  grows old new x e = by_test (list_any (eq x) old) refl
    where
      to : (b : Bool) → list_any (eq x) old ≡ b → new ≡ cond b old (old ++ x ∷ [])
      to b f = e ∙ ap (λ c. cond c old (old ++ x ∷ [])) f

      by_test : (b : Bool) → list_any (eq x) old ≡ b → Grows old x new
      by_test true f = let P : List MarkerTree → Type 0 = λ k. Grows old x k in subst P (sym (to true f)) (same old x)
      by_test false f = let P : List MarkerTree → Type 0 = λ k. Grows old x k in subst P (sym (to false f)) (one_more old x f)
