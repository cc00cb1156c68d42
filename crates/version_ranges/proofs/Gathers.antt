-- Where a function has one value, and how that grows with its steps.
use Rattle.std.proofs.Common.{◌≡◌, Bool, true, false, not, cond, ◌&&◌, ◌||◌, List, [], ◌∷◌, ◌++◌, map, Option, Some, None, refl, sym, ap, ◌∙◌, subst, arith}
use mathlib.Core.Bool.{beq}
use Rattle.std.specs.List.{list_any}
use Rattle.std.specs.declared.cmp.Ordering.{Ordering}
use Rattle.std.specs.Cmp.{IsTotalOrder}
use Rattle.std.proofs.lemmas.Bool.{true≢false, and_parts, and_from}
use Rattle.version_ranges.specs.Steps.{is_before, ascends, value_at, is_merged, last_value}
use Rattle.version_ranges.specs.Sweep.{merge_steps}
use Rattle.version_ranges.proofs.StepLaws.{value_from, Alike, alike_value, ascends_lower, merge_value}
use Rattle.version_ranges.proofs.EqualLaws.{flags_same, flags_equal}

module _ {C : Type 0} where
  last_by : (xs : List (C × Bool)) (v w : Bool) → v ≡ w → last_value v xs ≡ last_value w xs
  last_by xs v w e = ap (λ u. last_value u xs) e

  -- a step that changes nothing is left out, and any other one comes last
  pub merge_more : (v : Bool) (xs : List (C × Bool)) (x : C × Bool) → merge_steps beq v (xs ++ x ∷ []) ≡ cond (beq (last_value v xs) x.1) (merge_steps beq v xs) (merge_steps beq v xs ++ x ∷ [])
  merge_more v [] x = refl
  merge_more v (s ∷ xs) x = grind (arith, beq, cond, last_by, flags_same, merge_more v xs x, merge_more s.1 xs x)

  -- the last value stays
  pub merge_last : (v : Bool) (xs : List (C × Bool)) → last_value v (merge_steps beq v xs) ≡ last_value v xs
  merge_last v [] = refl
  merge_last v (s ∷ xs) = grind (arith, beq, cond, last_by, flags_same, merge_last v xs, merge_last s.1 xs)

  pub last_alike : (cmp : C → C → Ordering) (v : Bool) (xs ys : List (C × Bool)) → Alike cmp (λ a b. a ≡ b) xs ys → last_value v xs ≡ last_value v ys
  last_alike cmp v [] [] a = refl
  last_alike cmp v [] (y ∷ ys) a = absurd a
  last_alike cmp v (x ∷ xs) [] a = absurd a
  last_alike cmp v (x ∷ xs) (y ∷ ys) a = last_by xs x.1 y.1 a.1.0 ∙ last_alike cmp y.1 xs ys a.1.1

  pub alike_more : (cmp : C → C → Ordering) (xs ys us ws : List (C × Bool)) → Alike cmp (λ a b. a ≡ b) xs ys → Alike cmp (λ a b. a ≡ b) us ws → Alike cmp (λ a b. a ≡ b) (xs ++ us) (ys ++ ws)
  alike_more cmp [] [] us ws a h = h
  alike_more cmp [] (y ∷ ys) us ws a h = absurd a
  alike_more cmp (x ∷ xs) [] us ws a h = absurd a
  alike_more cmp (x ∷ xs) (y ∷ ys) us ws a h = (a.0, (a.1.0, alike_more cmp xs ys us ws a.1.1 h))

  module _ {cmp : C → C → Ordering} (o : IsTotalOrder cmp) where
    past_by : {V : Type 0} (low : Option C) (s : C × V) (ys zs : List (C × V)) (t : Bool) → is_before cmp low s.0 ≡ true → ascends cmp low ys ≡ true → ascends cmp (Some s.0) zs ≡ true → ascends cmp low (cond t ys (s ∷ zs)) ≡ true
    past_by low s ys zs t h1 h2 h3 = grind arith

    past_append : (t : Bool) (ys zs us : List (C × Bool)) (s : C × Bool) → cond t (ys ++ us) (s ∷ (zs ++ us)) ≡ cond t ys (s ∷ zs) ++ us
    past_append t ys zs us s = grind arith

    -- a cut after all steps is after those that are kept
    pub merge_past : (low : Option C) (v : Bool) (xs : List (C × Bool)) (c : C) (a b : Bool) → ascends cmp low (xs ++ (c, a) ∷ []) ≡ true → ascends cmp low (merge_steps beq v xs ++ (c, b) ∷ []) ≡ true
    merge_past low v [] c a b h = h
    merge_past low v (s ∷ xs) c a b h =
        let q = and_parts _ _ h in
        subst (λ l. ascends cmp low l ≡ true) (past_append (beq v s.1) (merge_steps beq v xs) (merge_steps beq s.1 xs) ((c, b) ∷ []) s)
        (past_by low s (merge_steps beq v xs ++ (c, b) ∷ []) (merge_steps beq s.1 xs ++ (c, b) ∷ []) (beq v s.1) q.0
        (merge_past low v xs c a b (ascends_lower o low s.0 (xs ++ (c, a) ∷ []) q.0 q.1)) (merge_past (Some s.0) s.1 xs c a b q.1))

    -- a step's value has no part in the order
    pub past_value : {V : Type 0} (low : Option C) (xs : List (C × V)) (c : C) (a b : V) → ascends cmp low (xs ++ (c, a) ∷ []) ≡ true → ascends cmp low (xs ++ (c, b) ∷ []) ≡ true
    past_value low [] c a b h = h
    past_value low (x ∷ xs) c a b h = let q = and_parts _ _ h in and_from _ _ q.0 (past_value (Some x.0) xs c a b q.1)

  pub merged_more : (v : Bool) (xs : List (C × Bool)) (c : C) → is_merged beq v xs ≡ true → is_merged beq v (xs ++ (c, not (last_value v xs)) ∷ []) ≡ true
  merged_more true [] c h = refl
  merged_more false [] c h = refl
  merged_more v (x ∷ xs) c h = let q = and_parts _ _ h in and_from _ _ q.0 (merged_more x.1 xs c q.1)

module _ {C V : Type 0} (same : V → V → Bool) (k : V) where
  -- at which steps the value is k
  abbrev pub mask : List (C × V) → List (C × Bool)
  mask xs = map (λ x. (x.0, same k x.1)) xs

  -- the set of the points at which the value is k, by its steps
  abbrev pub sees : V → List (C × V) → List (C × Bool)
  sees v xs = merge_steps beq (same k v) (mask xs)

  mask_value : (t : C → Bool) (v : V) (xs : List (C × V)) → value_at t (same k v) (mask xs) ≡ same k (value_at t v xs)
  mask_value t v [] = refl
  mask_value t v (x ∷ xs) = grind (arith, cond, mask_value t x.1 xs)

  mask_last : (v : V) (xs : List (C × V)) → last_value (same k v) (mask xs) ≡ same k (last_value v xs)
  mask_last v [] = refl
  mask_last v (x ∷ xs) = mask_last x.1 xs

  mask_more : (xs ys : List (C × V)) → mask (xs ++ ys) ≡ mask xs ++ mask ys
  mask_more [] ys = refl
  mask_more (x ∷ xs) ys = ap (λ l. (x.0, same k x.1) ∷ l) (mask_more xs ys)

  mask_ascends : (cmp : C → C → Ordering) (low : Option C) (xs : List (C × V)) → ascends cmp low (mask xs) ≡ ascends cmp low xs
  mask_ascends cmp low [] = refl
  mask_ascends cmp low (x ∷ xs) = ap (λ b. is_before cmp low x.0 && b) (mask_ascends cmp (Some x.0) xs)

  pub sees_last : (v : V) (xs : List (C × V)) → last_value (same k v) (sees v xs) ≡ same k (last_value v xs)
  sees_last v xs = merge_last (same k v) (mask xs) ∙ mask_last v xs

  pub sees_more : (v : V) (xs : List (C × V)) (x : C × V) → sees v (xs ++ x ∷ []) ≡ cond (beq (same k (last_value v xs)) (same k x.1)) (sees v xs) (sees v xs ++ (x.0, same k x.1) ∷ [])
  sees_more v xs x = grind (arith, beq, mask_more, merge_more, cond, mask_last)

  -- a value that no step has
  none_by : (v : V) (xs : List (C × V)) (u : Bool) → same k v ≡ u → list_any (same k) (map (λ s. s.1) xs) ≡ false → u ≡ false → merge_steps beq u (mask xs) ≡ []
  none_by v [] u e h f = refl
  none_by v (x ∷ xs) u e h f = by_test (same k x.1) refl h (λ i. none_by v xs u e i f)
    where
      by_test : (t : Bool) → same k x.1 ≡ t → (same k x.1 || list_any (same k) (map (λ s. s.1) xs)) ≡ false → (list_any (same k) (map (λ s. s.1) xs) ≡ false → merge_steps beq u (mask xs) ≡ []) → cond (beq u (same k x.1)) (merge_steps beq u (mask xs)) ((x.0, same k x.1) ∷ merge_steps beq (same k x.1) (mask xs)) ≡ []
      by_test true g i r = absurd (true≢false (sym (ap (λ b. b || list_any (same k) (map (λ s. s.1) xs)) g) ∙ i))
      by_test false g i r =
          ap (λ b. cond b (merge_steps beq u (mask xs)) ((x.0, same k x.1) ∷ merge_steps beq (same k x.1) (mask xs))) (ap (λ b. beq b (same k x.1)) f ∙ ap (beq false) g)
          ∙ r (sym (ap (λ b. b || list_any (same k) (map (λ s. s.1) xs)) g) ∙ i)

  pub sees_none : (v : V) (xs : List (C × V)) → same k v ≡ false → list_any (same k) (map (λ s. s.1) xs) ≡ false → sees v xs ≡ []
  sees_none v xs e h = none_by v xs (same k v) refl h e

  module _ {cmp : C → C → Ordering} (o : IsTotalOrder cmp) where
    pub sees_past : (v : V) (xs : List (C × V)) (x : C × V) (b : Bool) → ascends cmp None (xs ++ x ∷ []) ≡ true → ascends cmp None (sees v xs ++ (x.0, b) ∷ []) ≡ true
    sees_past v xs x b h =
        merge_past o None (same k v) (mask xs) x.0 (same k x.1) b (ap (ascends cmp None) (sym (mask_more xs (x ∷ []))) ∙ mask_ascends cmp None (xs ++ x ∷ []) ∙ h)

    -- the set has the points at which the value is k
    pub sees_value : (v : V) (xs : List (C × V)) (first : Bool) (steps : List (C × Bool)) → ascends cmp None xs ≡ true → first ≡ same k v → Alike cmp (λ a b. a ≡ b) steps (sees v xs) →
        (p : Option C) → value_from cmp first steps p ≡ same k (value_from cmp v xs p)
    sees_value v xs first steps h e a p =
        alike_value o (λ a b. a ≡ b) steps (sees v xs) first (same k v) p e a
        ∙ flags_same _ _ (merge_value o flags_equal None (same k v) (mask xs) p (mask_ascends cmp None xs ∙ h)) ∙ mask_value (is_before cmp p) v xs
