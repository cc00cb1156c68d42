-- The sets of versions of version specifiers (PEP 440, "Version specifiers"), as sets of points.
-- That only the release counts, without epoch, pre-release, post-release, development release and
-- local part, is this project's own.
use Rattle.std.specs.Prelude.{◌≡◌, ◌⊎◌, ⊤, IfErr, OnOk, Result, ℕ, ◌+◌, ◌-◌, ◌<◌, ◌==◌, Bool, true, not, List, [], ◌∷◌, length, take, None, Option, Some}
use Rattle.std.specs.Borrow.{Bor}
use Rattle.std.specs.Range.Bound.{bound_map}
use Rattle.std.specs.declared.cmp.Ordering.TheVariants.{Equal}
use Rattle.std.specs.declared.ops.Bound.{Bound}
use Rattle.std.specs.declared.ops.Bound.TheVariants.{Included, Excluded, Unbounded}
use Rattle.refusal.specs.declared.Refusal.{Refusal}
use Rattle.refusal.specs.declared.Refusal.TheVariants.{OutOfMemory, SegmentAtEnd}
use Rattle.version_ranges.specs.declared.ranges.Ranges.{Ranges}
use Rattle.version_ranges.specs.Bounds.{all_bounds}
use Rattle.version_ranges.specs.Point.{Point, is_in_bounds}
use Rattle.version_ranges.specs.Ranges.{IsSet, contains_point}
use Rattle.pep440_version.specs.Order.{trimmed, version_cmp}
use Rattle.pep440_version.specs.Parts.{Parts, release_only}
use Rattle.pep440_specifier.specs.declared.operator.Operator.{Operator}
use Rattle.pep440_specifier.specs.declared.operator.Operator.TheVariants as operator

-- a release with its last number raised by one
abbrev pub raised : List ℕ → List ℕ
raised [] = []
raised (x ∷ []) = (x + 1) ∷ []
raised (x ∷ y ∷ r) = x ∷ raised (y ∷ r)

-- a release with its last number dropped
abbrev pub front : List ℕ → List ℕ
front r = take (length r - 1) r

-- the last number of a release
abbrev pub last_number : List ℕ → Option ℕ
last_number [] = None
last_number (x ∷ []) = Some x
last_number (x ∷ y ∷ r) = last_number (y ∷ r)

-- a bound at a borrowed release
abbrev pub at_numbers : Bound (Bor (List ℕ)) → Bound (List ℕ)
at_numbers bound = bound_map (λ r. r.now) bound

-- whether a point is between two bounds that are releases
abbrev pub is_between : Bound (List ℕ) → Bound (List ℕ) → Point Parts → Bool
is_between lower upper p =
    is_in_bounds version_cmp (bound_map release_only lower) (bound_map release_only upper) p

-- whether a point is between two bounds at borrowed releases
abbrev pub is_between_borrowed : Bound (Bor (List ℕ)) → Bound (Bor (List ℕ)) → Point Parts → Bool
is_between_borrowed lower upper = is_between (at_numbers lower) (at_numbers upper)

-- whether a point is from a release on and below the end of a prefix
abbrev pub is_below_end : List ℕ → List ℕ → Point Parts → Bool
is_below_end release prefix = is_between (Included release) (Excluded (raised prefix))

-- whether a point is in the set of an operator and a release
abbrev pub is_in : Operator → List ℕ → Point Parts → Bool
is_in operator.Equal r p = is_between (Included r) (Included r) p
is_in operator.ExactEqual r p = is_between (Included r) (Included r) p
is_in operator.NotEqual r p = not (is_between (Included r) (Included r) p)
is_in operator.LessThan r p = is_between Unbounded (Excluded r) p
is_in operator.LessThanEqual r p = is_between Unbounded (Included r) p
is_in operator.GreaterThan r p = is_between (Excluded r) Unbounded p
is_in operator.GreaterThanEqual r p = is_between (Included r) Unbounded p
is_in operator.TildeEqual r p = is_between (Included r) (Excluded (raised (front r))) p
is_in operator.EqualStar r p = is_between (Included r) (Excluded (raised r)) p
is_in operator.NotEqualStar r p = not (is_between (Included r) (Excluded (raised r)) p)

-- the number that a comparison raises, if any
abbrev pub raised_number : Operator → List ℕ → Option ℕ
raised_number operator.TildeEqual r = last_number (front r)
raised_number operator.EqualStar r = last_number r
raised_number operator.NotEqualStar r = last_number r
raised_number o r = None

-- the largest number of a version
abbrev pub IsGreatest : Option ℕ → Type 0
IsGreatest n = n ≡ Some 18446744073709551615

-- a bound of a comparison would be above the largest number
abbrev pub Overflows : Operator → List ℕ → Type 0
Overflows o r = IsGreatest (raised_number o r)

-- memory ran out, or a bound would be above the largest number
abbrev pub IsRefusal : {E : Type 0} → Type 0 → Refusal E → Type 0
IsRefusal AtEnd e = (e ≡ OutOfMemory) ⊎ ((e ≡ SegmentAtEnd) × AtEnd)

-- a value only if nothing overflows; a refusal if memory runs out or something overflows
abbrev pub RefusedWhere : {T E : Type 0} → Result T (Refusal E) → Type 0 → Type 0
RefusedWhere result overflow = OnOk result (¬ overflow) × IfErr result (IsRefusal overflow)

-- a bound is at a release with a number
abbrev pub HasNumbers : Bound (List ℕ) → Type 0
HasNumbers (Included r) = 0 < length r
HasNumbers (Excluded r) = 0 < length r
HasNumbers Unbounded = ⊤

-- two bounds are alike, at versions that the order ties
abbrev pub IsSameBound : Bound Parts → Bound Parts → Type 0
IsSameBound (Included v) (Included w) = version_cmp v w ≡ Equal
IsSameBound (Excluded v) (Excluded w) = version_cmp v w ≡ Equal
IsSameBound Unbounded Unbounded = ⊤
IsSameBound lower upper = ⊥

-- a bound at a version with this release
abbrev pub at_version : Bound (List ℕ) → Bound Parts
at_version bound = bound_map release_only bound

-- a bound at a version with this release, without the zeros at its end
abbrev pub at_trimmed : Bound (Bor (List ℕ)) → Bound Parts
at_trimmed bound = bound_map (λ r. release_only (trimmed r.now)) bound

-- whether a version is written without zeros at the end of its release, down to one number
abbrev pub is_trimmed : Parts → Bool
is_trimmed v = length v.release == length (trimmed v.release)

module _ {a : _} {b : _} {c : _} where
  -- each bound of a set is written without zeros at the end of its release
  unfoldable pub HasTrimmedBounds : Ranges Parts a b c → Type 0
  HasTrimmedBounds set = all_bounds is_trimmed set ≡ true

  -- a set has these points
  abbrev pub HasPoints : (Point Parts → Bool) → Ranges Parts a b c → Type 0
  HasPoints points set = IsSet version_cmp set points

  -- whether a set has the point
  abbrev pub has_point : Ranges Parts a b c → Point Parts → Bool
  has_point set = contains_point version_cmp set
