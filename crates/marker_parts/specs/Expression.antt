-- What an expression means: a set of valuations (PEP 508, "Environment Markers", which has no
-- points).
use Rattle.std.specs.Prelude.{ℕ, Bool, not, List, Option, Some, None, string_bytes}
use Rattle.version_ranges.specs.Point.{Point}
use Rattle.pep440_version.specs.Parts.{Parts}
use Rattle.pep440_specifier.specs.Specifier.{Specifier}
use Rattle.pep440_rs.specs.Intervals as releases
use Rattle.pep440_rs.specs.Intervals.{is_in}
use Rattle.pep440_rs.specs.PythonVersion.{python_is_in, PythonOverflows}
use Rattle.pep440_rs.specs.Lists.{is_listed, is_minor_listed, is_in_or_not, ListOverflows}
use Rattle.marker_words.specs.declared.key.MarkerValueVersion.{MarkerValueVersion}
use Rattle.marker_words.specs.declared.key.MarkerValueVersion.TheVariants.{ImplementationVersion, PythonFullVersion, PythonVersion}
use Rattle.marker_words.specs.declared.key.VersionVariable.{VersionVariable}
use Rattle.marker_words.specs.declared.key.VersionVariable.TheVariants as variables
use Rattle.marker_words.specs.declared.key.MarkerValueString.{MarkerValueString}
use Rattle.marker_words.specs.declared.operator.MarkerOperator.{MarkerOperator}
use Rattle.marker_words.specs.declared.operator.MarkerOperator.TheVariants.{In, NotIn, Contains, NotContains}
use Rattle.marker_words.specs.declared.operator.ExtraOperator.{ExtraOperator}
use Rattle.marker_words.specs.declared.operator.ExtraOperator.TheVariants as extra_operators
use Rattle.marker_words.specs.Compare.{holds_beside, beside, text_cmp}
use Rattle.marker_words.specs.Key.{variable_of}
use Rattle.marker_environment.specs.Valuation.{Valuation}
use Rattle.marker_parts.specs.declared.expression.MarkerExpression.{MarkerExpression}
use Rattle.marker_parts.specs.declared.expression.MarkerExpression.TheVariants as expressions
use Rattle.marker_parts.specs.declared.extra.MarkerValueExtra.{MarkerValueExtra}
use Rattle.marker_parts.specs.declared.extra.MarkerValueExtra.TheVariants as extra_values

-- an extra by its normal name, or a text that is an invalid name
pub data Extra : Type 0 where
  name : List ℕ → Extra
  arbitrary : List ℕ → Extra

-- the test of one comparison; texts are bytes
pub data Test : Type 0 where
  version : MarkerValueVersion → Specifier → Test
  -- whether the version is one of these, or if the test is negated, none of them
  version_in : MarkerValueVersion → List Parts → Bool → Test
  text : MarkerValueString → MarkerOperator → List ℕ → Test
  extra : ExtraOperator → Extra → Test

abbrev pub extra_of : MarkerValueExtra → Extra
extra_of (extra_values.Extra n) = name n
extra_of (extra_values.Arbitrary t) = arbitrary (string_bytes t)

abbrev pub test_of : MarkerExpression → Test
test_of (expressions.Version key specifier) = version key specifier
test_of (expressions.VersionIn key versions negated) = version_in key versions.items negated
test_of (expressions.String key operator value) = text key operator (string_bytes value)
test_of (expressions.Extra operator x) = extra operator (extra_of x)

-- `python_version` has no variable: its comparisons are comparisons of the full version
abbrev pub version_variable_of : MarkerValueVersion → VersionVariable
version_variable_of ImplementationVersion = variables.ImplementationVersion
version_variable_of PythonFullVersion = variables.PythonFullVersion
version_variable_of PythonVersion = variables.PythonFullVersion

-- the version variable of the test, if it has one
abbrev pub asked_version : Test → Option VersionVariable
asked_version (version key specifier) = Some (version_variable_of key)
asked_version (version_in key versions negated) = Some (version_variable_of key)
asked_version (text key operator value) = None
asked_version (extra operator x) = None

-- whether a point satisfies a comparison of the key's variable
abbrev pub holds_version : MarkerValueVersion → Specifier → Point Parts → Bool
holds_version ImplementationVersion s point = is_in s.operator s.version.release point
holds_version PythonFullVersion s point = is_in s.operator s.version.release point
holds_version PythonVersion s point = python_is_in s.operator s.version.release point

abbrev pub holds_in : MarkerValueVersion → List Parts → Point Parts → Bool
holds_in ImplementationVersion versions point = is_listed versions point
holds_in PythonFullVersion versions point = is_listed versions point
holds_in PythonVersion versions point = is_minor_listed versions point

-- texts are not compared by `~=`: a reader drops such a comparison
abbrev pub holds_text : MarkerOperator → MarkerValueString → List ℕ → Valuation → Bool
holds_text In key value v = v.inside (variable_of key) value
holds_text NotIn key value v = not (v.inside (variable_of key) value)
holds_text Contains key value v = v.contains (variable_of key) value
holds_text NotContains key value v = not (v.contains (variable_of key) value)
holds_text operator key value v =
    holds_beside operator (beside text_cmp (v.text (variable_of key)) value)

abbrev pub holds_extra : Extra → Valuation → Bool
holds_extra (name n) v = v.extra n
holds_extra (arbitrary t) v = v.arbitrary t

-- whether a valuation is in the set of an expression
abbrev pub holds : Test → Valuation → Bool
holds (version key specifier) v = holds_version key specifier (v.version (version_variable_of key))
holds (version_in key versions negated) v =
    is_in_or_not negated (holds_in key versions (v.version (version_variable_of key)))
holds (text key operator value) v = holds_text operator key value v
holds (extra extra_operators.Equal x) v = holds_extra x v
holds (extra extra_operators.NotEqual x) v = not (holds_extra x v)

-- a bound of the set would be above 2^64 - 1
abbrev pub Overflows : Test → Type 0
Overflows (version ImplementationVersion s) = releases.Overflows s.operator s.version.release
Overflows (version PythonFullVersion s) = releases.Overflows s.operator s.version.release
Overflows (version PythonVersion s) = PythonOverflows s.operator s.version.release
Overflows (version_in ImplementationVersion versions negated) = ⊥
Overflows (version_in PythonFullVersion versions negated) = ⊥
Overflows (version_in PythonVersion versions negated) = ListOverflows versions
Overflows (text key operator value) = ⊥
Overflows (extra operator x) = ⊥
