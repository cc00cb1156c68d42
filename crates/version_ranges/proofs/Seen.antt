-- For `Cuts::gather`: the values of a list, each at its first place (`first_seen`), and what one
-- more value adds to them.
use Rattle.std.proofs.Common.{◌≡◌, ℕ, suc, Bool, true, false, not, cond, ◌||◌, List, [], ◌∷◌, ◌++◌, filter, Some, refl, sym, ap, ◌∙◌, append-nil, slice_get, arith}
use Rattle.std.specs.List.{list_any}
use Rattle.std.specs.Cmp.{IsEquivalence}
use Rattle.std.proofs.lemmas.Bool.{false≢true}
use Rattle.std.proofs.lemmas.List.Elements.{filter-append}
use Rattle.std.proofs.lemmas.Map.Views.{any-filter_same}
use Rattle.version_ranges.specs.Gather.{first_seen}

module _ {V : Type 0} {same : V → V → Bool} (s : IsEquivalence same) where
  -- a value that differs from another one is found if the other one is left out
  found_beside : (w x : V) (vs : List V) → same w x ≡ false → list_any (same x) (filter (λ k. not (same w k)) vs) ≡ list_any (same x) vs
  found_beside w x vs e =
      any-filter_same (same x) (λ k. not (same w k)) true (λ k f. ap not (s.symm w k ∙ sym (s.congr x k w f) ∙ s.symm x w ∙ e)) vs

  -- the list has the values that its source has
  pub found_seen : (x : V) (vs : List V) → list_any (same x) (first_seen same vs) ≡ list_any (same x) vs
  found_seen x [] = refl
  found_seen x (w ∷ vs) = grind (arith, filter, not, found_beside, found_seen x vs)

  -- one more value
  more_by : (w x : V) (ws : List V) (t : Bool) → list_any (same x) ws ≡ t → (u : Bool) → same x w ≡ u →
      w ∷ filter (λ k. not (same w k)) (cond t ws (ws ++ x ∷ [])) ≡ cond (same x w || list_any (same x) (filter (λ k. not (same w k)) ws)) (w ∷ filter (λ k. not (same w k)) ws) ((w ∷ filter (λ k. not (same w k)) ws) ++ x ∷ [])
  more_by w x ws t h1 u h2 = grind (arith, cond, filter, not, found_beside, filter-append, append-nil)

  pub seen_more : (x : V) (vs : List V) → first_seen same (vs ++ x ∷ []) ≡ cond (list_any (same x) (first_seen same vs)) (first_seen same vs) (first_seen same vs ++ x ∷ [])
  seen_more x [] = refl
  seen_more x (w ∷ vs) = ap (λ l. w ∷ filter (λ k. not (same w k)) l) (seen_more x vs) ∙ more_by w x (first_seen same vs) (list_any (same x) (first_seen same vs)) refl (same x w) refl

-- a value that is found has a place
pub found_place : {X : Type 0} (test : X → Bool) (xs : List X) → list_any test xs ≡ true → (i : ℕ) × (x : X) × (slice_get xs i ≡ Some x) × (test x ≡ true)
found_place test [] e = absurd (false≢true e)
found_place {X = X} test (x ∷ xs) e = by_test (test x) refl (λ h. found_place test xs h)
  where
    later : (i : ℕ) × (y : X) × (slice_get xs i ≡ Some y) × (test y ≡ true) → (i : ℕ) × (y : X) × (slice_get (x ∷ xs) i ≡ Some y) × (test y ≡ true)
    later q = (suc q.0, q.1, q.2, q.3)

    by_test : (t : Bool) → test x ≡ t → (list_any test xs ≡ true → (i : ℕ) × (y : X) × (slice_get xs i ≡ Some y) × (test y ≡ true)) → (i : ℕ) × (y : X) × (slice_get (x ∷ xs) i ≡ Some y) × (test y ≡ true)
    by_test true f h = (0, x, refl, f)
    by_test false f h = later (h (sym (ap (λ b. b || list_any test xs) f) ∙ e))

module _ {V : Type 0} (same : V → V → Bool) where
  -- none of these is equal to v
  abbrev pub AllDiffer : V → List V → Type 0
  AllDiffer v [] = Unit {0}
  AllDiffer v (w ∷ ws) = (same v w ≡ false) × AllDiffer v ws

  -- no value is equal to a later one
  abbrev pub AreApart : List V → Type 0
  AreApart [] = Unit {0}
  AreApart (v ∷ vs) = AllDiffer v vs × AreApart vs

  differ_filtered : (u : V) (test : V → Bool) (ws : List V) → AllDiffer u ws → AllDiffer u (filter test ws)
  differ_filtered u test [] a = tt
  differ_filtered u test (w ∷ ws) a = grind (arith, filter, cond, differ_filtered u test ws a.1)

  apart_filtered : (test : V → Bool) (ws : List V) → AreApart ws → AreApart (filter test ws)
  apart_filtered test [] a = tt
  apart_filtered test (w ∷ ws) a = grind (arith, filter, cond, differ_filtered, apart_filtered test ws a.1)

  left_differ : (v : V) (ws : List V) → AllDiffer v (filter (λ k. not (same v k)) ws)
  left_differ v [] = tt
  left_differ v (w ∷ ws) = grind (arith, filter, not, cond, left_differ v ws)

  pub seen_apart : (vs : List V) → AreApart (first_seen same vs)
  seen_apart [] = tt
  seen_apart (v ∷ vs) = (left_differ v (first_seen same vs), apart_filtered (λ k. not (same v k)) (first_seen same vs) (seen_apart vs))
