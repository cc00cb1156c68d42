-- The sets of versions of `in` and `not in` with a list of versions.
use Rattle.std.specs.Prelude.{◌≡◌, ◌==◌, Bool, true, false, not, ◌&&◌, if◌then◌else◌, List}
use Rattle.std.specs.List.{list_any}
use Rattle.std.specs.declared.ops.Bound.TheVariants.{Included}
use Rattle.version_ranges.specs.Point.{Point, is_in_bounds}
use Rattle.pep440_version.specs.Order.{version_cmp}
use Rattle.pep440_version.specs.Parts.{Parts}
use Rattle.pep440_rs.specs.PythonVersion.{has_more, is_in_minor, minor_number}

-- the listed versions, with all their parts
abbrev pub is_listed : List Parts → Point Parts → Bool
is_listed versions p = list_any (λ v. is_in_bounds version_cmp (Included v) (Included v) p) versions

-- whether an entry has more release numbers than `python_version` has
abbrev pub has_long : List Parts → Bool
has_long versions = list_any (λ v. has_more v.release) versions

-- the full versions whose `python_version` is one of the releases as they are written: none if an
-- entry has too many numbers
abbrev pub is_minor_listed : List Parts → Point Parts → Bool
is_minor_listed versions p =
    not (has_long versions) && list_any (λ v. is_in_minor v.release p) versions

-- `in`, or `not in` if it is negated
abbrev pub is_in_or_not : Bool → Bool → Bool
is_in_or_not negated listed = if negated then not listed else listed

-- whether the end of an entry would be above the largest number
abbrev pub raises_greatest : List Parts → Bool
raises_greatest versions = list_any (λ v. minor_number v.release == 18446744073709551615) versions

-- the end of an entry would be above the largest number; a list with an entry of too many numbers
-- has no ends
abbrev pub ListOverflows : List Parts → Type 0
ListOverflows versions = (has_long versions ≡ false) × (raises_greatest versions ≡ true)

-- two lists of versions list the same
abbrev pub ListTheSame : List Parts → List Parts → Type 0
ListTheSame versions others = (p : Point Parts) → is_listed versions p ≡ is_listed others p

-- whether a point is in one of the listed minors
abbrev pub is_in_some_minor : List Parts → Point Parts → Bool
is_in_some_minor versions = λ p. list_any (λ v. is_in_minor v.release p) versions

-- the listed points, or the others if it is negated
abbrev pub listed_or_not : Bool → (Point Parts → Bool) → Point Parts → Bool
listed_or_not negated listed = λ p. is_in_or_not negated (listed p)
