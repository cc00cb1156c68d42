-- Ranges of releases, and the specifiers that mean them.
use Rattle.std.specs.Prelude.{◌≡◌, ◌==◌, ◌&&◌, ⊤, Bool, List, ℕ}
use Rattle.std.specs.Borrow.{Bor}
use Rattle.std.specs.List.{list_all}
use Rattle.std.specs.Range.Bound.{bound_map}
use Rattle.std.specs.declared.ops.Bound.{Bound}
use Rattle.std.specs.declared.ops.Bound.TheVariants.{Included, Excluded, Unbounded}
use Rattle.version_ranges.specs.Point.{Point, is_in_bounds}
use Rattle.pep440_version.specs.Order.{version_cmp}
use Rattle.pep440_version.specs.Parts.{Parts, release_only}
use Rattle.pep440_version.specs.Valid.{IsValid}
use Rattle.pep440_specifier.specs.Alone.{is_alone}
use Rattle.pep440_specifier.specs.Specifier.{Specifier}
use Rattle.pep440_rs.specs.Intervals.{is_in}
use Rattle.pep440_specifier.specs.declared.operator.Operator.{Operator}

-- whether a point is in the set of each specifier
abbrev pub is_in_all : List Specifier → Point Parts → Bool
is_in_all specifiers p = list_all (λ s. is_in s.operator s.version.release p) specifiers

-- a version with only release numbers
abbrev pub IsRelease : Parts → Type 0
IsRelease v = v ≡ release_only v.release

-- whether a version has only release numbers
abbrev pub is_release : Parts → Bool
is_release v = v.epoch == 0 && is_alone v

-- a bound at such a version, or none
abbrev pub IsAtRelease : Bound (Bor Parts) → Type 0
IsAtRelease (Included v) = IsRelease v.now
IsAtRelease (Excluded v) = IsRelease v.now
IsAtRelease Unbounded = ⊤

-- a bound at a version with valid parts, or none
abbrev pub IsAtValid : Bound (Bor Parts) → Type 0
IsAtValid (Included v) = IsValid v.now
IsAtValid (Excluded v) = IsValid v.now
IsAtValid Unbounded = ⊤

-- whether a point is between two bounds at borrowed versions
abbrev pub is_within : Bound (Bor Parts) → Bound (Bor Parts) → Point Parts → Bool
is_within lower upper p =
    is_in_bounds version_cmp (bound_map (λ v. v.now) lower) (bound_map (λ v. v.now) upper) p

-- whether a point is in the set of a specifier, given the sets of operators and releases
abbrev pub points_of : (Operator → List ℕ → Point Parts → Bool) → Specifier → Point Parts → Bool
points_of set s = set s.operator s.version.release

-- a fact of operators and releases is true of a specifier
abbrev pub HoldsOf : (Operator → List ℕ → Type 0) → Specifier → Type 0
HoldsOf Fact s = Fact s.operator s.version.release
