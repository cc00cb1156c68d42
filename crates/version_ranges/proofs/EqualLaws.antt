-- Equality of functions as lists, and at every point.
use Rattle.std.proofs.Common.{◌≡◌, Bool, true, false, ◌&&◌, List, [], ◌∷◌, None, refl, sym, ap, ◌∙◌, inl, inr, arith}
use mathlib.Core.Bool.{beq}
use Rattle.std.specs.Ordering.{is_eq, ordering_then, bool_cmp}
use Rattle.std.specs.declared.cmp.Ordering.{Ordering}
use Rattle.std.specs.Cmp.{IsTotalOrder, IsEquivalence}
use Rattle.std.proofs.lemmas.Bool.{and_parts, true≢false, false≢true}
use Rattle.version_ranges.specs.declared.cut.Cut.{Cut}
use Rattle.version_ranges.specs.Point.{Point}
use Rattle.version_ranges.specs.Cut.{cut_cmp, stands_before}
use Rattle.version_ranges.specs.Steps.{ascends, is_merged, value_at}
use Rattle.version_ranges.proofs.StepLaws.{Alike, value_from, same_steps, same_value, compared, alike_ascends, is_equal}
use Rattle.version_ranges.proofs.Picks.{alike_merged}
use Rattle.version_ranges.proofs.PointLaws.{cut_total, place, point_of, value_at_place, value_at_point}

-- equality of cuts
abbrev pub cut_eq : {T : Type 0} → (T → T → Bool) → Cut T → Cut T → Bool
cut_eq eq c d = eq c.value d.value && beq c.above d.above

then_tied : (r : Ordering) (a b : Bool) → (is_eq r && beq a b) ≡ is_eq (ordering_then r (bool_cmp a b))
then_tied r a b = grind arith

module _ {T V : Type 0} {cmp : T → T → Ordering} {same : V → V → Bool} (o : IsTotalOrder cmp) (s : IsEquivalence same) (eq : T → T → Bool) (ties : (x y : T) → eq x y ≡ is_eq (cmp x y)) where
  cut_ties : (c d : Cut T) → cut_eq eq c d ≡ is_eq (cut_cmp cmp c d)
  cut_ties c d = ap (λ b. b && beq c.above d.above) (ties c.value d.value) ∙ then_tied (cmp c.value d.value) c.above d.above

  -- equal lists are one function
  pub equal_values : (v w : V) (xs ys : List (Cut T × V)) → (same v w && same_steps (cut_eq eq) same xs ys) ≡ true → (p : Point T) →
      same (value_at (stands_before (λ v. v) cmp p) v xs) (value_at (stands_before (λ v. v) cmp p) w ys) ≡ true
  equal_values v w xs ys e p =
      let q = and_parts (same v w) (same_steps (cut_eq eq) same xs ys) e in
      ap (λ u. same u (value_at (stands_before (λ v. v) cmp p) w ys)) (value_at_place cmp v xs p) ∙ ap (same (value_from (cut_cmp cmp) v xs (place p))) (value_at_place cmp w ys p)
      ∙ same_value (cut_total o) s (cut_eq eq) cut_ties v w xs ys (place p) q.0 q.1

  -- merged lists that are not equal differ at a point
  pub unequal_point : (v w : V) (xs ys : List (Cut T × V)) → ascends (cut_cmp cmp) None xs ≡ true → ascends (cut_cmp cmp) None ys ≡ true → is_merged same v xs ≡ true → is_merged same w ys ≡ true →
      (same v w && same_steps (cut_eq eq) same xs ys) ≡ false → (p : Point T) × (same (value_at (stands_before (λ v. v) cmp p) v xs) (value_at (stands_before (λ v. v) cmp p) w ys) ≡ false)
  unequal_point v w xs ys a b m n e =
      elim (compared (cut_total o) s (cut_eq eq) cut_ties None v w xs ys a b m n) [
        | inl f ↦ absurd (true≢false (sym f ∙ e))
        | inr d ↦ (
          point_of d.point,
          ap (λ u. same u (value_at (stands_before (λ v. v) cmp (point_of d.point)) w ys)) (value_at_point cmp v xs d.point)
              ∙ ap (same (value_from (cut_cmp cmp) v xs d.point)) (value_at_point cmp w ys d.point) ∙ d.differ,
        )
      ]

  equal_alike : (xs ys : List (Cut T × V)) → same_steps (cut_eq eq) same xs ys ≡ true → Alike (cut_cmp cmp) (λ u v. same u v ≡ true) xs ys
  equal_alike [] [] e = tt
  equal_alike [] (y ∷ ys) e = absurd (false≢true e)
  equal_alike (x ∷ xs) [] e = absurd (false≢true e)
  equal_alike (x ∷ xs) (y ∷ ys) e =
      let q = and_parts (cut_eq eq x.0 y.0 && same x.1 y.1) (same_steps (cut_eq eq) same xs ys) e in
      let r = and_parts (cut_eq eq x.0 y.0) (same x.1 y.1) q.0 in
      (is_equal _ (sym (cut_ties x.0 y.0) ∙ r.0), (r.1, equal_alike xs ys q.1))

  -- equal lists ascend alike
  -- what is equal to a merged list is merged
  pub equal_merged : (v w : V) (xs ys : List (Cut T × V)) → (same v w && same_steps (cut_eq eq) same xs ys) ≡ true → is_merged same v xs ≡ true → is_merged same w ys ≡ true
  equal_merged v w xs ys h1 h2 = grind (arith, and_parts, same_steps, alike_merged, equal_alike)

  pub equal_ascends : (xs ys : List (Cut T × V)) → same_steps (cut_eq eq) same xs ys ≡ true → ascends (cut_cmp cmp) None xs ≡ true → ascends (cut_cmp cmp) None ys ≡ true
  equal_ascends xs ys e a = sym (alike_ascends (cut_total o) (λ u v. same u v ≡ true) xs ys None (equal_alike xs ys e)) ∙ a

flags_refl : (a : Bool) → beq a a ≡ true
flags_refl a = grind arith

flags_symm : (a b : Bool) → beq a b ≡ beq b a
flags_symm a b = grind arith

pub flags_same : (a b : Bool) → beq a b ≡ true → a ≡ b
flags_same a b h1 = grind arith

pub flags_differ : (a b : Bool) → beq a b ≡ false → a ≡ b → ⊥
flags_differ a b e f = true≢false (sym (flags_refl a) ∙ ap (beq a) f ∙ e)

-- `==` of flags is an equivalence
pub flags_equal : IsEquivalence beq
flags_equal = record { refl = flags_refl; symm = flags_symm; congr = λ a b c e. ap (λ d. beq d c) (flags_same a b e) }
