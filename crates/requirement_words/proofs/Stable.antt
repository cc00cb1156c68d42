-- A stable sort has one outcome: sorted lists, whose equal elements are in the same order in both,
-- are the same.
use Rattle.std.proofs.Common.{◌≡◌, ℕ, ◌≤◌, ◌<◌, zero, suc, Bool, true, false, not, List, [], ◌∷◌, get_or, length, filter, refl, sym, ap, ◌∙◌, inl, inr, suc-le-suc, zero-le, arith}
use Rattle.std.specs.Cmp.{IsStrictWeakOrder}
use Rattle.std.specs.List.Sorted.{ties, IsSortedBy, IsStableBy}
use Rattle.std.proofs.lemmas.Bool.{cond-true, cond-false, cases_Bool, and_parts, and_from, not-true}
use Rattle.std.proofs.lemmas.List.Sorted.{sorted_far}

-- first elements and what follows them, over variables
heads : {X : Type 0} (a b : X) (x y t u : List X) → t ≡ a ∷ x → t ≡ u → u ≡ b ∷ y → a ≡ b
heads a b x y t u e f g = cc

behind : {X : Type 0} (a b : X) (x y t u : List X) → t ≡ a ∷ x → t ≡ u → u ≡ b ∷ y → x ≡ y
behind a b x y t u e f g = cc

not_nothing : {X : Type 0} (a : X) (x t : List X) → t ≡ a ∷ x → t ≡ [] → ⊥
not_nothing a x t e f = cc

module _ {X : Type 0} (lt : X → X → Bool) where
  -- no element is lower than the first
  abbrev AreNoLower : X → List X → Type 0
  AreNoLower y [] = Unit {0}
  AreNoLower y (z ∷ zs) = (lt z y ≡ false) × AreNoLower y zs

  abbrev Rises : List X → Type 0
  Rises [] = Unit {0}
  Rises (y ∷ ys) = AreNoLower y ys × Rises ys

  no_lower_at : (y : X) (ys : List X) → ((j : ℕ) (d : X) → j < length ys → lt (get_or ys j d) y ≡ false) → AreNoLower y ys
  no_lower_at y [] h = tt
  no_lower_at y (z ∷ zs) h = (h zero z (suc-le-suc zero-le), no_lower_at y zs (λ j d less. h (suc j) d (suc-le-suc less)))

  rises_at : (ys : List X) → ((i j : ℕ) (d : X) → i ≤ j → j < length ys → lt (get_or ys j d) (get_or ys i d) ≡ false) → Rises ys
  rises_at [] h = tt
  rises_at (y ∷ ys) h = (
    no_lower_at y ys (λ j d less. h zero (suc j) d zero-le (suc-le-suc less)),
    rises_at ys (λ i j d le less. h (suc i) (suc j) d (suc-le-suc le) (suc-le-suc less)),
  )

  kept : (x y : X) (ys : List X) → ties lt x y ≡ true → filter (ties lt x) (y ∷ ys) ≡ y ∷ filter (ties lt x) ys
  kept x y ys h = cond-true _ _ _ h

  dropped : (x y : X) (ys : List X) → ties lt x y ≡ false → filter (ties lt x) (y ∷ ys) ≡ filter (ties lt x) ys
  dropped x y ys h = cond-false _ _ _ h

module _ {X : Type 0} (lt : X → X → Bool) (o : IsStrictWeakOrder lt) where
  not_below : (x : X) → lt x x ≡ false
  not_below x = grind arith

  tied : (x y : X) → lt x y ≡ false → lt y x ≡ false → ties lt x y ≡ true
  tied x y e f = and_from _ _ (ap not e) (ap not f)

  tied_itself : (x : X) → ties lt x x ≡ true
  tied_itself x = tied x x (not_below x) (not_below x)

  -- what is equal to one of them is no lower either
  no_lower_found : (y x : X) (ys : List X) (w : X) (ws : List X) → AreNoLower lt y ys → filter (ties lt x) ys ≡ w ∷ ws → lt x y ≡ false
  no_lower_found y x [] w ws h e = absurd (not_nothing w ws [] e refl)
  no_lower_found y x (z ∷ zs) w ws h e = grind (arith, cases_Bool, not-true, and_parts, dropped, no_lower_found y x zs w ws h.1)

  same_from_ties : (ys zs : List X) → Rises lt ys → Rises lt zs → ((x : X) → filter (ties lt x) ys ≡ filter (ties lt x) zs) → ys ≡ zs
  same_from_ties [] [] left right same = refl
  same_from_ties [] (z ∷ zs) left right same =
      absurd (not_nothing z _ _ (kept lt z z zs (tied_itself z)) (sym (same z)))
  same_from_ties (y ∷ ys) [] left right same =
      absurd (not_nothing y _ _ (kept lt y y ys (tied_itself y)) (same y))
  same_from_ties (y ∷ ys) (z ∷ zs) left right same =
      let at_y = kept lt y y ys (tied_itself y) in
      let at_z = kept lt z z zs (tied_itself z) in
      let up = no_lower_found z y (z ∷ zs) y _ (not_below z, right.0) (sym (same y) ∙ at_y) in
      let down = no_lower_found y z (y ∷ ys) z _ (not_below y, left.0) (same z ∙ at_z) in
      let head : y ≡ z = heads y z _ _ _ _ at_y (same y) (kept lt y z zs (tied y z up down)) in
      let tails : (x : X) → filter (ties lt x) ys ≡ filter (ties lt x) zs =
      λ x. elim (cases_Bool (ties lt x y)) [
        | inl with ↦ behind y z _ _ _ _ (kept lt x y ys with) (same x) (kept lt x z zs (ap (ties lt x) (sym head) ∙ with))
        | inr without ↦ sym (dropped lt x y ys without) ∙ same x ∙ dropped lt x z zs (ap (ties lt x) (sym head) ∙ without)
      ] in
      ap (λ (w : X). w ∷ ys) head ∙ ap (λ (l : List X). z ∷ l) (same_from_ties ys zs left.1 right.1 tails)

  -- two stable sorts of one list
  pub stable_is_unique : (list ys zs : List X) → IsSortedBy lt ys → IsStableBy lt list ys → IsSortedBy lt zs → IsStableBy lt list zs → ys ≡ zs
  stable_is_unique list ys zs up stable rising steady =
      same_from_ties ys zs (rises_at lt ys (sorted_far lt o ys up)) (rises_at lt zs (sorted_far lt o zs rising)) (λ x. stable x ∙ sym (steady x))
