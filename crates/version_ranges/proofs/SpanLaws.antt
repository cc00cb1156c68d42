-- The span of the intervals of a set, by its first and its last cut.
use Rattle.std.proofs.Common.{◌≡◌, Bool, true, false, cond, List, [], ◌∷◌, ◌++◌, Some, refl, ap, ◌∙◌, arith}
use mathlib.Core.Bool.{beq}
use Rattle.std.specs.Option.{option_map}
use Rattle.std.specs.declared.ops.Bound.{Bound}
use Rattle.std.specs.declared.ops.Bound.TheVariants.{Unbounded}
use Rattle.version_ranges.specs.declared.cut.Cut.{Cut}
use Rattle.version_ranges.specs.Cut.{lower_of, upper_of}
use Rattle.version_ranges.specs.Steps.{is_merged}
use Rattle.version_ranges.specs.Parts.{parts_from}
use Rattle.version_ranges.specs.Intervals.{intervals_among, last_upper, lower_from, span_of, upper_after}

module _ {T : Type 0} where
  upper_held : (u low : Bound T) (c : Cut T) (b v : Bool) (xs : List (Cut T × Bool)) → is_merged beq v ((c, b) ∷ xs) ≡ true →
      last_upper u (intervals_among (parts_from low v ((c, b) ∷ xs))) ≡ upper_after ((c, b) ∷ xs)
  upper_held u low c true true xs m = cc m
  upper_held u low c false false xs m = cc m
  upper_held u low c false true [] m = refl
  upper_held u low c true false [] m = refl
  upper_held u low c false true (y ∷ ys) m = upper_held (upper_of c) (lower_of c) y.0 y.1 false ys m
  upper_held u low c true false (y ∷ ys) m = upper_held u (lower_of c) y.0 y.1 true ys m

  span_first : (c : Cut T) (b : Bool) (xs : List (Cut T × Bool)) → is_merged beq false ((c, b) ∷ xs) ≡ true →
      span_of (intervals_among (parts_from (lower_of c) b xs)) ≡ Some (lower_of c, upper_after ((c, b) ∷ xs))
  span_first c b xs h1 = grind (arith, upper_held)

  pub span_is : (first : Bool) (xs : List (Cut T × Bool)) → is_merged beq first xs ≡ true → span_of (intervals_among (parts_from Unbounded first xs)) ≡ option_map (λ l. (l, upper_after xs)) (lower_from first xs)
  span_is true [] m = refl
  span_is false [] m = refl
  span_is true (x ∷ xs) m = ap (λ (u : Bound T). Some (Unbounded, u)) (upper_held Unbounded Unbounded x.0 x.1 true xs m)
  span_is false (x ∷ xs) m = span_first x.0 x.1 xs m

  pub upper_last : (xs ys : List (Cut T × Bool)) (x : Cut T × Bool) → xs ≡ ys ++ x ∷ [] → upper_after xs ≡ cond x.1 Unbounded (upper_of x.0)
  upper_last xs ys x e = ap upper_after e ∙ upper_append ys
    where
      upper_append : (ys : List (Cut T × Bool)) → upper_after (ys ++ x ∷ []) ≡ cond x.1 Unbounded (upper_of x.0)
      upper_append [] = refl
      upper_append (y ∷ []) = refl
      upper_append (y ∷ z ∷ zs) = upper_append (z ∷ zs)
