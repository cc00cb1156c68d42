-- Sets of a single value: their two cuts.
use Rattle.std.proofs.Common.{◌≡◌, get_or, subst, Bool, true, false, not, ◌&&◌, ◌||◌, List, [], ◌∷◌, length, None, refl, sym, ap, ◌∙◌, arith}
use mathlib.Core.Bool.{beq}
use Rattle.std.specs.Ordering.{is_eq}
use Rattle.std.specs.declared.cmp.Ordering.{Ordering}
use Rattle.std.specs.declared.ops.Bound.TheVariants.{Included}
use Rattle.std.specs.Cmp.{IsTotalOrder}
use Rattle.std.proofs.lemmas.Bool.{and_parts, and_from, true≢false, false≢true}
use Rattle.version_ranges.specs.declared.cut.Cut.{Cut}
use Rattle.version_ranges.specs.Point.{Point, is_in_bounds}
use Rattle.version_ranges.specs.Cut.{cut_cmp, stands_before}
use Rattle.version_ranges.specs.Steps.{value_at, ascends, is_merged}
use Rattle.version_ranges.proofs.StepLaws.{same_steps}
use Rattle.version_ranges.proofs.EqualLaws.{cut_eq, unequal_point, flags_equal, flags_differ}
use Rattle.version_ranges.proofs.SpotLaws.{spots, low_cut, high_cut, is_at, low_high, spots_value}

or_false : (b : Bool) → b ≡ (b || false)
or_false b = grind arith

module _ {T : Type 0} {cmp : T → T → Ordering} (o : IsTotalOrder cmp) (eq : T → T → Bool) (ties : (x y : T) → eq x y ≡ is_eq (cmp x y))
    (first : Bool) (xs : List (Cut T × Bool)) (asc : ascends (cut_cmp cmp) None xs ≡ true) (merged : is_merged beq first xs ≡ true) where
  abbrev pub IsOnly : T → Type 0
  IsOnly v = (p : Point T) → value_at (stands_before (λ v. v) cmp p) first xs ≡ is_in_bounds cmp (Included v) (Included v) p

  -- the set of a value has the two cuts around it
  shape : (v : T) → IsOnly v → (beq first false && same_steps (cut_eq eq) beq xs (spots (v ∷ []))) ≡ true
  shape v h = by_test (beq first false && same_steps (cut_eq eq) beq xs (spots (v ∷ []))) refl
    where
      by_test : (b : Bool) → (beq first false && same_steps (cut_eq eq) beq xs (spots (v ∷ []))) ≡ b → b ≡ true
      by_test true e = refl
      by_test false e =
          let rises : ascends (cut_cmp cmp) None (spots (v ∷ [])) ≡ true = and_from _ _ (low_high o v) refl in
          let q = unequal_point o flags_equal eq ties first false xs (spots (v ∷ [])) asc rises merged refl e in
          absurd (flags_differ _ _ q.1 (h q.0 ∙ or_false (is_at o q.0 v) ∙ sym (spots_value o None (v ∷ []) q.0 rises)))

  two_of : (ys : List (Cut T × Bool)) (v : T) → same_steps (cut_eq eq) beq ys (spots (v ∷ [])) ≡ true → length ys ≡ 2
  two_of [] v e = absurd (false≢true e)
  two_of (x ∷ []) v e = grind (arith, false≢true)
  two_of (x ∷ y ∷ []) v e = refl
  two_of (x ∷ y ∷ z ∷ zs) v e = grind (arith, false≢true)

  pub only_two : (v : T) → IsOnly v → length xs ≡ 2
  only_two v h = two_of xs v ((and_parts (beq first false) _ (shape v h)).1)

  -- whether two cuts are around one value
  abbrev pub is_around : Bool → Cut T → Cut T → Bool
  is_around b c d = not b && (not c.above && (d.above && eq c.value d.value))

  flag_true : (b : Bool) → beq b true ≡ true → b ≡ true
  flag_true b h1 = grind arith

  flag_false : (b : Bool) → beq b false ≡ true → not b ≡ true
  flag_false b h1 = grind arith

  both_tied : (u w v : T) → eq u v ≡ true → eq w v ≡ true → eq u w ≡ true
  both_tied u w v h1 h2 = grind arith

  pub only_around : (x y : Cut T × Bool) → xs ≡ x ∷ y ∷ [] → (v : T) → IsOnly v → is_around first x.0 y.0 ≡ true
  only_around x y e v h =
      let s : (beq first false && same_steps (cut_eq eq) beq (x ∷ y ∷ []) (spots (v ∷ []))) ≡ true = subst (λ l. (beq first false && same_steps (cut_eq eq) beq l (spots (v ∷ []))) ≡ true) e (shape v h) in
      let a = and_parts (beq first false) (same_steps (cut_eq eq) beq (x ∷ y ∷ []) (spots (v ∷ []))) s in
      let b = and_parts (cut_eq eq x.0 (low_cut v) && beq x.1 true) ((cut_eq eq y.0 (high_cut v) && beq y.1 false) && true) a.1 in
      let c = and_parts (cut_eq eq x.0 (low_cut v)) (beq x.1 true) b.0 in
      let d = and_parts (eq x.0.value v) (beq x.0.above false) c.0 in
      let f = and_parts (cut_eq eq y.0 (high_cut v) && beq y.1 false) true b.1 in
      let k = and_parts (cut_eq eq y.0 (high_cut v)) (beq y.1 false) f.0 in
      let m = and_parts (eq y.0.value v) (beq y.0.above true) k.0 in
      and_from _ _ (flag_false first a.0) (and_from _ _ (flag_false x.0.above d.1) (and_from _ _ (flag_true y.0.above m.1) (both_tied x.0.value y.0.value v d.0 m.0)))

  pub around_only : (x y : Cut T × Bool) → xs ≡ x ∷ y ∷ [] → is_around first x.0 y.0 ≡ true → IsOnly x.0.value
  around_only x y h1 h2 = grind arith

  two_is : (ys : List (Cut T × Bool)) (x y : Cut T × Bool) → length ys ≡ 2 → ys ≡ get_or ys 0 x ∷ get_or ys 1 y ∷ []
  two_is [] x y e = absurd (omega (arith, e))
  two_is (a ∷ []) x y e = absurd (omega (arith, e))
  two_is (a ∷ b ∷ []) x y e = refl
  two_is (a ∷ b ∷ c ∷ cs) x y e = absurd (omega (arith, e))

  -- for `as_singleton`: two steps read from the list
  pub read_only : (ys : List (Cut T × Bool)) (x y : Cut T × Bool) → ys ≡ xs → length ys ≡ 2 → is_around first (get_or ys 0 x).0 (get_or ys 1 y).0 ≡ true → IsOnly (get_or ys 0 x).0.value
  read_only ys x y k e h = around_only (get_or ys 0 x) (get_or ys 1 y) (sym k ∙ two_is ys x y e) h

  pub read_none : (ys : List (Cut T × Bool)) (x y : Cut T × Bool) → ys ≡ xs → length ys ≡ 2 → is_around first (get_or ys 0 x).0 (get_or ys 1 y).0 ≡ false → (v : T) → IsOnly v → ⊥
  read_none ys x y k e n v m = true≢false (sym (only_around (get_or ys 0 x) (get_or ys 1 y) (sym k ∙ two_is ys x y e) v m) ∙ n)

  pub not_two : (ys : List (Cut T × Bool)) → ys ≡ xs → (length ys ≡ 2 → ⊥) → (v : T) → IsOnly v → ⊥
  not_two ys k n v m = n (ap length k ∙ only_two v m)
