-- A version key and a quoted text: their test, if they have one (PEP 508, "Environment Markers",
-- and PEP 440, "Version specifiers", which have no lists of versions).
use Rattle.std.specs.Prelude.{ℕ, Bool, true, false, List, [], ◌∷◌}
use Rattle.std.specs.Str.{chars}
use Rattle.pep440_version.specs.Parts.{Parts}
use Rattle.pep440_version.specs.Grammar.{IsVersionText, IsPatternText}
use Rattle.pep440_specifier.specs.declared.operator.Operator.{Operator}
use Rattle.pep440_specifier.specs.declared.operator.Operator.TheVariants as specifiers
use Rattle.pep440_specifier.specs.Specifier.{Specifier, Makes}
use Rattle.marker_words.specs.declared.key.MarkerValueVersion.{MarkerValueVersion}
use Rattle.marker_words.specs.declared.operator.MarkerOperator.{MarkerOperator}
use Rattle.marker_words.specs.declared.operator.MarkerOperator.TheVariants.{Equal, NotEqual, GreaterThan, GreaterEqual, LessThan, LessEqual, TildeEqual, In, NotIn, Contains, NotContains}
use Rattle.pep508_errors.specs.declared.warning.MarkerWarningKind.{MarkerWarningKind}
use Rattle.pep508_errors.specs.declared.warning.MarkerWarningKind.TheVariants.{Pep440Error}
use Rattle.marker_parts.specs.declared.version_operator.VersionOperator.{VersionOperator}
use Rattle.marker_parts.specs.declared.version_operator.VersionOperator.TheVariants.{Compare, Among, Neither}
use Rattle.marker_parts.specs.Expression.{Test, version, version_in, test_of}
use Rattle.marker_parts.specs.VersionList.{IsVersionList}
use Rattle.marker_parts.specs.declared.expression.MarkerExpression.{MarkerExpression}

-- what an operator does with versions: it compares with one, or it looks in a list, and may be
-- negated
abbrev pub version_operator : MarkerOperator → VersionOperator
version_operator Equal = Compare specifiers.Equal
version_operator NotEqual = Compare specifiers.NotEqual
version_operator GreaterThan = Compare specifiers.GreaterThan
version_operator GreaterEqual = Compare specifiers.GreaterThanEqual
version_operator LessThan = Compare specifiers.LessThan
version_operator LessEqual = Compare specifiers.LessThanEqual
version_operator TildeEqual = Compare specifiers.TildeEqual
version_operator In = Among false
version_operator NotIn = Among true
version_operator Contains = Neither
version_operator NotContains = Neither

-- the test of a version key and a text after it: the text is a pattern that makes a specifier with
-- the operator, or a list
pub data Asks (key : MarkerValueVersion) (t : List ℕ) : VersionOperator → Test → Type 0 where
  compares : {operator : Operator} {v : Parts} {star : Bool} {s : Specifier} →
      IsPatternText t v star → Makes operator v star s →
      Asks key t (Compare operator) (version key s)
  lists : {negated : Bool} {versions : List Parts} → IsVersionList (chars t) versions →
      Asks key t (Among negated) (version_in key versions negated)

-- the test of a version key and a text before it, with the operator turned around: the text is a
-- version
pub data AsksBefore (key : MarkerValueVersion) (t : List ℕ) : VersionOperator → Test → Type 0 where
  compares_before : {operator : Operator} {v : Parts} {s : Specifier} →
      IsVersionText t v → Makes operator v false s →
      AsksBefore key t (Compare operator) (version key s)

-- the warnings of a version key without a test for the text after it: a list has two
abbrev pub refused_kinds : VersionOperator → List MarkerWarningKind
refused_kinds (Compare operator) = Pep440Error ∷ []
refused_kinds (Among negated) = Pep440Error ∷ Pep440Error ∷ []
refused_kinds Neither = Pep440Error ∷ []

-- the expression has the test of a version key and a text after it, or before it
abbrev pub IsAsked : MarkerValueVersion → List ℕ → VersionOperator → MarkerExpression → Type 0
IsAsked key t operator expression = Asks key t operator (test_of expression)

abbrev pub IsAskedBefore : MarkerValueVersion → List ℕ → VersionOperator → MarkerExpression
    → Type 0
IsAskedBefore key t operator expression = AsksBefore key t operator (test_of expression)

-- they have no test
abbrev pub AsksNothing : MarkerValueVersion → List ℕ → VersionOperator → Type 0
AsksNothing key t operator = (test : Test) → ¬ Asks key t operator test

abbrev pub AsksNothingBefore : MarkerValueVersion → List ℕ → VersionOperator → Type 0
AsksNothingBefore key t operator = (test : Test) → ¬ AsksBefore key t operator test

-- an operator and a version, with a star or without, make no specifier
abbrev pub MakesNone : Operator → Parts → Bool → Type 0
MakesNone operator v star = (s : Specifier) → Makes operator v star s → ⊥
