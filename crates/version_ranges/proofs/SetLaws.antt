-- Sets: when they are empty.
use Rattle.std.proofs.Common.{◌≡◌, ℕ, Bool, true, false, not, List, [], ◌∷◌, length, eqb, eqb-true, eq-eqb, Some, None, refl, sym, ap, ◌∙◌, ◌↔◌, arith}
use mathlib.Core.Bool.{beq}
use Rattle.std.specs.declared.cmp.Ordering.{Ordering}
use Rattle.std.specs.Cmp.{IsTotalOrder}
use Rattle.std.proofs.lemmas.Bool.{and_parts, true≢false, false≢true}
use Rattle.std.proofs.lemmas.List.{nil_from_length}
use Rattle.version_ranges.specs.declared.cut.Cut.{Cut}
use Rattle.version_ranges.specs.Point.{Point, bottom}
use Rattle.version_ranges.specs.Cut.{cut_cmp, stands_before}
use Rattle.version_ranges.specs.Steps.{value_at, ascends, is_merged}
use Rattle.version_ranges.proofs.StepLaws.{value_from_low, value_from_later, before_itself}
use Rattle.version_ranges.proofs.PointLaws.{cut_total, point_of, value_at_point}

module _ {T : Type 0} {cmp : T → T → Ordering} (o : IsTotalOrder cmp) where
  -- the value below all cuts, and at the first cut
  pub value_bottom : {V : Type 0} → (v : V) (xs : List (Cut T × V)) → ascends (cut_cmp cmp) None xs ≡ true → value_at (stands_before (λ v. v) cmp bottom) v xs ≡ v
  value_bottom v xs a = value_at_point cmp v xs None ∙ value_from_low (cut_total o) v xs None a

  pub value_cut : {V : Type 0} → (v : V) (x : Cut T × V) (xs : List (Cut T × V)) → ascends (cut_cmp cmp) (Some x.0) xs ≡ true → value_at (stands_before (λ v. v) cmp (point_of (Some x.0))) v (x ∷ xs) ≡ x.1
  value_cut v x xs a = value_at_point cmp v (x ∷ xs) (Some x.0) ∙ value_from_later (cut_total o) v x xs (Some x.0) (before_itself (cut_total o) x.0) ∙ value_from_low (cut_total o) x.1 xs (Some x.0) a

  both_false : (a b : Bool) → a ≡ false → b ≡ false → not (beq a b) ≡ true → ⊥
  both_false a b h1 h2 h3 = grind arith

  -- a set without a point is one piece
  pub set_empty : (first : Bool) (xs : List (Cut T × Bool)) → ascends (cut_cmp cmp) None xs ≡ true → is_merged beq first xs ≡ true →
      ((p : Point T) → value_at (stands_before (λ v. v) cmp p) first xs ≡ false) → (first ≡ false) × (xs ≡ [])
  set_empty first [] a m h = (h bottom, refl)
  set_empty first (x ∷ xs) a m h =
      absurd (both_false first x.1 (sym (value_bottom first (x ∷ xs) a) ∙ h bottom) (sym (value_cut first x xs a) ∙ h (point_of (Some x.0))) ((and_parts (not (beq first x.1)) (is_merged beq x.1 xs) m).0))

  one_piece : (first : Bool) (xs : List (Cut T × Bool)) → first ≡ false → xs ≡ [] → (p : Point T) → value_at (stands_before (λ v. v) cmp p) first xs ≡ false
  one_piece first xs e f p = ap (value_at (stands_before (λ v. v) cmp p) first) f ∙ e

  pub empty_then : (first : Bool) (xs : List (Cut T × Bool)) (n : ℕ) (r : Bool) → ascends (cut_cmp cmp) None xs ≡ true → is_merged beq first xs ≡ true → first ≡ false → n ≡ length xs → r ≡ eqb n 0 →
      (r ≡ true) ↔ ((p : Point T) → value_at (stands_before (λ v. v) cmp p) first xs ≡ false)
  empty_then first xs n r h1 h2 h3 h4 h5 = grind (arith, one_piece, nil_from_length, eqb-true, eq-eqb, length, set_empty)

  pub empty_else : (first : Bool) (xs : List (Cut T × Bool)) → ascends (cut_cmp cmp) None xs ≡ true → is_merged beq first xs ≡ true → first ≡ true →
      (not first ≡ true) ↔ ((p : Point T) → value_at (stands_before (λ v. v) cmp p) first xs ≡ false)
  empty_else first xs a m e = (λ h. absurd (false≢true (sym (ap not e) ∙ h)), λ h. absurd (true≢false (sym e ∙ (set_empty first xs a m h).0)))
