-- Comparisons as conditions on a point, and the comparisons of a range (PEP 508, "Environment
-- Markers", which has no points).
use Rattle.std.specs.Prelude.{ℕ, Bool, false, Option, Some, None, List, [], ◌∷◌, ◌++◌, if◌then◌else◌, nat_eq, String, string_bytes}
use Rattle.std.specs.Borrow.{Bor}
use Rattle.std.specs.Cmp.Lexicographic.{pointwise, slice_cmp}
use Rattle.std.specs.List.{list_all}
use Rattle.std.specs.Option.{option_to_list}
use Rattle.std.specs.Ordering.{nat_cmp, is_eq, is_ne, is_lt, is_le, is_gt, is_ge}
use Rattle.std.specs.Range.Bound.{bound_map}
use Rattle.std.specs.declared.cmp.Ordering.{Ordering}
use Rattle.std.specs.declared.ops.Bound.{Bound}
use Rattle.std.specs.declared.ops.Bound.TheVariants.{Included, Excluded, Unbounded}
use Rattle.version_ranges.specs.Point.{Point, at, point_cmp}
use Rattle.marker_words.specs.declared.operator.MarkerOperator.{MarkerOperator}
use Rattle.marker_words.specs.declared.operator.MarkerOperator.TheVariants.{Equal, NotEqual, GreaterThan, GreaterEqual, LessThan, LessEqual, TildeEqual, In, NotIn, Contains, NotContains}

-- whether an operator is true of a point in this order to a value; operators that are not about
-- order are true of nothing here
abbrev pub holds_beside : MarkerOperator → Ordering → Bool
holds_beside Equal order = is_eq order
holds_beside NotEqual order = is_ne order
holds_beside GreaterThan order = is_gt order
holds_beside GreaterEqual order = is_ge order
holds_beside LessThan order = is_lt order
holds_beside LessEqual order = is_le order
holds_beside TildeEqual order = false
holds_beside In order = false
holds_beside NotIn order = false
holds_beside Contains order = false
holds_beside NotContains order = false

module _ {T : Type 0} where
  -- the order of a point to the point of a value
  abbrev pub beside : (T → T → Ordering) → Point T → T → Ordering
  beside cmp point value = point_cmp cmp point (at value)

  -- whether a point satisfies each of these comparisons
  abbrev pub satisfies_all : (T → T → Ordering) → List (MarkerOperator × T) → Point T → Bool
  satisfies_all cmp pairs point =
      list_all (λ pair. holds_beside pair.0 (beside cmp point pair.1)) pairs

  -- the comparison of a lower bound
  abbrev pub lower_pair : Bound T → Option (MarkerOperator × T)
  lower_pair (Included v) = Some (GreaterEqual, v)
  lower_pair (Excluded v) = Some (GreaterThan, v)
  lower_pair Unbounded = None

  -- the comparison of an upper bound
  abbrev pub upper_pair : Bound T → Option (MarkerOperator × T)
  upper_pair (Included v) = Some (LessEqual, v)
  upper_pair (Excluded v) = Some (LessThan, v)
  upper_pair Unbounded = None

  -- the comparisons of two bounds: one `==` if both include the same value, otherwise that of the
  -- lower and then that of the upper bound
  abbrev pub pairs_of : (T → T → Bool) → Bound T → Bound T → List (MarkerOperator × T)
  pairs_of eq (Included v) (Included w) =
      if eq v w then (Equal, v) ∷ [] else (GreaterEqual, v) ∷ (LessEqual, w) ∷ []
  pairs_of eq lower upper = option_to_list (lower_pair lower) ++ option_to_list (upper_pair upper)

-- texts are ordered by their bytes
abbrev pub text_cmp : List ℕ → List ℕ → Ordering
text_cmp a b = slice_cmp nat_cmp a b

abbrev pub text_eq : List ℕ → List ℕ → Bool
text_eq a b = pointwise nat_eq a b

-- the bound of a text
abbrev pub text_bound : {A : Type 0} → Bound (Bor (String A)) → Bound (List ℕ)
text_bound bound = bound_map (λ text. string_bytes text.now) bound

-- a comparison without its reference
abbrev pub pair_of : {A : Type 0} → MarkerOperator × Bor (String A) → MarkerOperator × List ℕ
pair_of pair = (pair.0, string_bytes pair.1.now)
