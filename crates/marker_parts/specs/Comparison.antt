-- One comparison of a marker: its text, its test, and the kinds of its warnings (PEP 508,
-- "Environment Markers"; which comparisons are dropped is not in it).
use Rattle.std.specs.Prelude.{◌≡◌, ℕ, List, [], ◌∷◌, ◌++◌, Option, Some, None, if◌then◌else◌}
use Rattle.pep508_names.specs.Name.{NormalizesTo, IsName}
use Rattle.marker_words.specs.declared.key.MarkerValueString.{MarkerValueString}
use Rattle.marker_words.specs.declared.key.MarkerValueVersion.{MarkerValueVersion}
use Rattle.marker_words.specs.declared.operator.MarkerOperator.{MarkerOperator}
use Rattle.marker_words.specs.declared.operator.MarkerOperator.TheVariants.{Equal, NotEqual, TildeEqual}
use Rattle.marker_words.specs.declared.operator.ExtraOperator.TheVariants as extra_operators
use Rattle.marker_words.specs.Key.{is_deprecated}
use Rattle.marker_words.specs.Operator.{turned}
use Rattle.marker_words.specs.Lexical.{Value, version_key, text_key, quoted, Sides}
use Rattle.marker_words.specs.Lexical as lexical
use Rattle.pep508_errors.specs.declared.warning.MarkerWarningKind.{MarkerWarningKind}
use Rattle.pep508_errors.specs.declared.warning.MarkerWarningKind.TheVariants.{DeprecatedMarkerName, ExtraInvalidComparison, LexicographicComparison, MarkerMarkerComparison, Pep440Error, StringStringComparison}
use Rattle.marker_parts.specs.Expression.{Extra, name, arbitrary, Test, text, extra}
use Rattle.marker_parts.specs.VersionComparison.{version_operator, Asks, AsksBefore, refused_kinds}

abbrev Kinds : Type 0
Kinds = List MarkerWarningKind

-- the test of a comparison, or nothing if it is dropped, and the kinds of its warnings in order
pub record Meaning : Type 0 where
  pub test : Option Test
  pub kinds : Kinds

abbrev pub dropped_with : Kinds → Meaning
dropped_with kinds = record { test = None; kinds = kinds }

abbrev pub kept_with : Test → Kinds → Meaning
kept_with t kinds = record { test = Some t; kinds = kinds }

-- the warning of a deprecated spelling
abbrev pub key_kinds : MarkerValueString → Kinds
key_kinds key = if is_deprecated key then DeprecatedMarkerName ∷ [] else []

-- the warning of a text that is an invalid name
abbrev pub extra_kinds : Extra → Kinds
extra_kinds (name n) = []
extra_kinds (arbitrary t) = ExtraInvalidComparison ∷ []

-- a text key and a quoted text: texts are not compared by `~=`
abbrev pub text_meaning : MarkerValueString → MarkerOperator → List ℕ → Meaning
text_meaning key TildeEqual value = dropped_with (key_kinds key ++ (LexicographicComparison ∷ []))
text_meaning key operator value = kept_with (text key operator value) (key_kinds key)

-- the extra of a quoted text, and the kinds of its warnings: an invalid name is an arbitrary extra
pub data IsExtra : List ℕ → Extra → Kinds → Type 0 where
  named : {t n : List ℕ} → NormalizesTo t n → IsExtra t (name n) []
  unnamed : {t : List ℕ} → ¬ IsName t → IsExtra t (arbitrary t) (ExtraInvalidComparison ∷ [])

-- `extra` and a quoted text: extras are only equal or not
abbrev pub extra_meaning : MarkerOperator → Extra → Kinds → Meaning
extra_meaning Equal x kinds = kept_with (extra extra_operators.Equal x) kinds
extra_meaning NotEqual x kinds = kept_with (extra extra_operators.NotEqual x) kinds
extra_meaning operator x kinds = dropped_with (kinds ++ (ExtraInvalidComparison ∷ []))

-- a version key and a text after it
pub data MeansBehind (key : MarkerValueVersion) (operator : MarkerOperator) (t : List ℕ) :
    Meaning → Type 0 where
  asks : {test : Test} →
      Asks key t (version_operator operator) test → MeansBehind key operator t (kept_with test [])
  asks_nothing : ((test : Test) → ¬ Asks key t (version_operator operator) test) →
      MeansBehind key operator t (dropped_with (refused_kinds (version_operator operator)))

-- a version key and a text before it, with the operator turned
pub data MeansBefore (key : MarkerValueVersion) (operator : MarkerOperator) (t : List ℕ) :
    Meaning → Type 0 where
  asks_before : {test : Test} → AsksBefore key t (version_operator operator) test →
      MeansBefore key operator t (kept_with test [])
  asks_nothing_before : ((test : Test) → ¬ AsksBefore key t (version_operator operator) test) →
      MeansBefore key operator t (dropped_with (Pep440Error ∷ []))

-- what two sides and the operator between them come to
pub data Means : Value → MarkerOperator → Value → Meaning → Type 0 where
  key_and_text : {key : MarkerValueString} {operator : MarkerOperator} {t : List ℕ} →
      Means (text_key key) operator (quoted t) (text_meaning key operator t)
  text_and_key : {key : MarkerValueString} {operator : MarkerOperator} {t : List ℕ} →
      Means (quoted t) operator (text_key key) (text_meaning key (turned operator) t)
  extra_and_text : {operator : MarkerOperator} {t : List ℕ} {x : Extra} {kinds : Kinds} →
      IsExtra t x kinds → Means lexical.extra operator (quoted t) (extra_meaning operator x kinds)
  text_and_extra : {operator : MarkerOperator} {t : List ℕ} {x : Extra} {kinds : Kinds} →
      IsExtra t x kinds → Means (quoted t) operator lexical.extra (extra_meaning operator x kinds)
  two_keys : {left right : MarkerValueString} {operator : MarkerOperator} →
      Means (text_key left) operator (text_key right)
      (dropped_with (key_kinds left ++ (key_kinds right ++ (MarkerMarkerComparison ∷ []))))
  key_and_extra : {key : MarkerValueString} {operator : MarkerOperator} →
      Means (text_key key) operator lexical.extra
      (dropped_with (key_kinds key ++ (MarkerMarkerComparison ∷ [])))
  extra_and_key : {key : MarkerValueString} {operator : MarkerOperator} →
      Means lexical.extra operator (text_key key)
      (dropped_with (key_kinds key ++ (ExtraInvalidComparison ∷ [])))
  two_extras : {operator : MarkerOperator} →
      Means lexical.extra operator lexical.extra (dropped_with (ExtraInvalidComparison ∷ []))
  two_texts : {s t : List ℕ} {operator : MarkerOperator} →
      Means (quoted s) operator (quoted t) (dropped_with (StringStringComparison ∷ []))
  version_and_text : {key : MarkerValueVersion} {operator : MarkerOperator} {t : List ℕ}
      {m : Meaning} →
      MeansBehind key operator t m → Means (version_key key) operator (quoted t) m
  text_and_version : {key : MarkerValueVersion} {operator : MarkerOperator} {t : List ℕ}
      {m : Meaning} →
      MeansBefore key (turned operator) t m → Means (quoted t) operator (version_key key) m
  version_and_key : {left : MarkerValueVersion} {right : MarkerValueString}
      {operator : MarkerOperator} →
      Means (version_key left) operator (text_key right)
      (dropped_with (key_kinds right ++ (Pep440Error ∷ [])))
  version_and_extra : {key : MarkerValueVersion} {operator : MarkerOperator} →
      Means (version_key key) operator lexical.extra (dropped_with (Pep440Error ∷ []))
  two_versions : {left right : MarkerValueVersion} {operator : MarkerOperator} →
      Means (version_key left) operator (version_key right) (dropped_with (Pep440Error ∷ []))
  key_and_version : {left : MarkerValueString} {right : MarkerValueVersion}
      {operator : MarkerOperator} →
      Means (text_key left) operator (version_key right)
      (dropped_with (key_kinds left ++ (MarkerMarkerComparison ∷ [])))
  extra_and_version : {key : MarkerValueVersion} {operator : MarkerOperator} →
      Means lexical.extra operator (version_key key) (dropped_with (ExtraInvalidComparison ∷ []))

-- a comparison at the front of the text, and the rest
pub data Compared : List ℕ → List ℕ → Meaning → Type 0 where
  compared : {input output : List ℕ} {left right : Value} {operator : MarkerOperator}
      {m : Meaning} →
      Sides input output left operator right → Means left operator right m → Compared input output m

-- `extra` and this text, with the operator between them, come to this
pub record MeansExtra (t : List ℕ) (operator : MarkerOperator) (m : Meaning) : Type 0 where
  pub which : Extra
  pub kinds : Kinds
  pub is_extra : IsExtra t which kinds
  pub means : m ≡ extra_meaning operator which kinds

-- the text begins with at most one comparison, which has one meaning
abbrev pub BeginsWithOne : List ℕ → Type 0
BeginsWithOne input = (o p : List ℕ) (m n : Meaning)
    → Compared input o m → Compared input p n → (o ≡ p) × (m ≡ n)
