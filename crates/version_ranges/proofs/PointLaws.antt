-- Points, and the places of cuts in the laws of steps.
use Rattle.std.proofs.Common.{◌≡◌, Bool, true, false, cond, List, Option, Some, None, ap, ◌∙◌, arith}
use Rattle.std.specs.Ordering.{is_eq}
use Rattle.std.specs.declared.cmp.Ordering.{Ordering}
use Rattle.std.specs.declared.cmp.Ordering.TheVariants.{Equal}
use Rattle.std.specs.Cmp.{IsTotalOrder, bool_cmp_total}
use Rattle.std.proofs.lemmas.Cmp.{then_total, on_total}
use Rattle.version_ranges.specs.declared.cut.Cut.{Cut}
use Rattle.version_ranges.specs.Point.{Point, bottom, at, above, point_lt}
use Rattle.version_ranges.specs.Cut.{cut_cmp, stands_before}
use Rattle.version_ranges.specs.Steps.{value_at, piece_at, is_before}

pub cut_total : {T : Type 0} {cmp : T → T → Ordering} → IsTotalOrder cmp → IsTotalOrder (cut_cmp cmp)
cut_total o = then_total (on_total (λ c. c.value) o) (on_total (λ c. c.above) bool_cmp_total)

-- a clone of a cut has the same place
pub clone_tied : {T : Type 0} {cmp : T → T → Ordering} → IsTotalOrder cmp → (eq : T → T → Bool) → ((x y : T) → eq x y ≡ is_eq (cmp x y)) → (c d : Cut T) →
    eq c.value d.value ≡ true → d.above ≡ c.above → cut_cmp cmp d c ≡ Equal
clone_tied h1 eq h2 c d h3 h4 = grind arith

module _ {T : Type 0} where
  -- the place of a point, as the laws of steps have it
  abbrev pub place : Point T → Option (Cut T)
  place bottom = None
  place (at v) = Some (record { value = v; above = false })
  place (above v) = Some (record { value = v; above = true })

  -- the point of a place
  abbrev pub point_of : Option (Cut T) → Point T
  point_of None = bottom
  point_of (Some c) = cond c.above (above c.value) (at c.value)

  pub place_point : (p : Option (Cut T)) → place (point_of p) ≡ p
  place_point p = grind arith

  -- the point below all values is before each cut
  pub bottom_before : (cmp : T → T → Ordering) (w : T) (b : Bool) → point_lt cmp bottom (cond b (above w) (at w)) ≡ true
  bottom_before cmp w b = grind arith

  -- a point is before a cut if its place is
  pub place_before : (cmp : T → T → Ordering) (p : Point T) (c : Cut T) → stands_before (λ v. v) cmp p c ≡ is_before (cut_cmp cmp) (place p) c
  place_before cmp p c = grind arith

module _ {C V : Type 0} where
  -- points that are before the same cuts have the same value, and are in the same piece
  pub value_at_same : (t u : C → Bool) → ((c : C) → t c ≡ u c) → (v : V) (xs : List (C × V)) → value_at t v xs ≡ value_at u v xs
  value_at_same t u h1 v xs = grind arith

  pub piece_at_same : (t u : C → Bool) → ((c : C) → t c ≡ u c) → (xs : List (C × V)) → piece_at t xs ≡ piece_at u xs
  piece_at_same t u h1 xs = grind arith

module _ {T V : Type 0} (cmp : T → T → Ordering) where
  pub value_at_place : (v : V) (xs : List (Cut T × V)) (p : Point T) → value_at (stands_before (λ v. v) cmp p) v xs ≡ value_at (is_before (cut_cmp cmp) (place p)) v xs
  value_at_place v xs p = value_at_same _ _ (place_before cmp p) v xs

  pub piece_at_place : (xs : List (Cut T × V)) (p : Point T) → piece_at (stands_before (λ v. v) cmp p) xs ≡ piece_at (is_before (cut_cmp cmp) (place p)) xs
  piece_at_place xs p = piece_at_same _ _ (place_before cmp p) xs

  -- and the other way: at the point of a place
  pub value_at_point : (v : V) (xs : List (Cut T × V)) (p : Option (Cut T)) → value_at (stands_before (λ v. v) cmp (point_of p)) v xs ≡ value_at (is_before (cut_cmp cmp) p) v xs
  value_at_point v xs p = value_at_place v xs (point_of p) ∙ ap (λ q. value_at (is_before (cut_cmp cmp) q) v xs) (place_point p)

  pub piece_at_point : (xs : List (Cut T × V)) (p : Option (Cut T)) → piece_at (stands_before (λ v. v) cmp (point_of p)) xs ≡ piece_at (is_before (cut_cmp cmp) p) xs
  piece_at_point xs p = piece_at_place xs (point_of p) ∙ ap (λ q. piece_at (is_before (cut_cmp cmp) q) xs) (place_point p)
