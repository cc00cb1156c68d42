-- The set of the values that satisfy a comparison with versions.
use Rattle.std.specs.Prelude.{◌≡◌, Bool, List, None, Some}
use Rattle.version_ranges.specs.Point.{Point}
use Rattle.version_ranges.specs.Ranges.{contains_point}
use Rattle.version_ranges.specs.declared.ranges.Ranges.{Ranges}
use Rattle.pep440_version.specs.Order.{version_cmp}
use Rattle.pep440_version.specs.Parts.{Parts}
use Rattle.pep440_specifier.specs.Specifier.{Specifier}
use Rattle.pep440_rs.specs.Lists.{is_in_or_not}
use Rattle.marker_words.specs.declared.key.MarkerValueVersion.{MarkerValueVersion}
use Rattle.marker_words.specs.declared.key.VersionVariable.{VersionVariable}
use Rattle.marker_environment.specs.Valuation.{Valuation}
use Rattle.marker_parts.specs.declared.expression.MarkerExpression.{MarkerExpression}
use Rattle.marker_parts.specs.Expression.{Overflows, asked_version, holds, holds_in, holds_version, test_of, version_in}

-- the comparison is with no version
abbrev pub AsksNoVersion : MarkerExpression → Type 0
AsksNoVersion expression = asked_version (test_of expression) ≡ None

-- a bound of a list of versions would be above 2^64 - 1
abbrev pub RangeOverflows : MarkerValueVersion → List Parts → Bool → Type 0
RangeOverflows key versions negated = Overflows (version_in key versions negated)

module _ {a : _} {b : _} {c : _} where
  -- the variable is the one of the comparison
  abbrev pub HasVariableOf : MarkerExpression → VersionVariable × Ranges Parts a b c → Type 0
  HasVariableOf expression range = asked_version (test_of expression) ≡ Some range.0

  -- the comparison holds exactly where the variable's value is in the set
  abbrev pub HasSetOf : MarkerExpression → VersionVariable × Ranges Parts a b c → Type 0
  HasSetOf expression range = (v : Valuation)
      → holds (test_of expression) v ≡ contains_point version_cmp range.1 (v.version range.0)

  -- the values that satisfy a specifier
  abbrev pub HasSatisfying : MarkerValueVersion → Specifier → Ranges Parts a b c → Type 0
  HasSatisfying key specifier range = (point : Point Parts)
      → contains_point version_cmp range point ≡ holds_version key specifier point

  -- the values that are in a list, or if negated, those that are not
  abbrev pub HasListed : MarkerValueVersion → List Parts → Bool → Ranges Parts a b c → Type 0
  HasListed key versions negated range = (point : Point Parts)
      → contains_point version_cmp range point ≡ is_in_or_not negated (holds_in key versions point)
