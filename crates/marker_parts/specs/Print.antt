-- How expressions are printed (PEP 508, "Environment Markers", which leaves open which quotes are
-- printed). Texts are lists of bytes.
use Rattle.std.specs.Prelude.{ℕ, Bool, List, [], ◌∷◌, ◌++◌, codes, if◌then◌else◌, string_bytes}
use Rattle.std.specs.List.{flat_map}
use Rattle.pep440_version.specs.Parts.{Parts}
use Rattle.pep440_version.specs.Text.{version_text}
use Rattle.pep440_specifier.specs.Specifier.{Specifier}
use Rattle.pep440_specifier.specs.Operator as specifiers
use Rattle.pep440_specifier.specs.Operator.{is_star}
use Rattle.marker_words.specs.declared.operator.MarkerOperator.{MarkerOperator}
use Rattle.marker_words.specs.declared.operator.MarkerOperator.TheVariants.{Contains, NotContains}
use Rattle.marker_words.specs.Key.{version_key_name, variable_name, variable_of}
use Rattle.marker_words.specs.Operator.{extra_operator_text, operator_text}
use Rattle.marker_words.specs.Print.{quoted_text}
use Rattle.marker_parts.specs.declared.expression.MarkerExpression.{MarkerExpression}
use Rattle.marker_parts.specs.declared.expression.MarkerExpression.TheVariants as expressions
use Rattle.marker_parts.specs.declared.extra.MarkerValueExtra.{MarkerValueExtra}
use Rattle.marker_parts.specs.declared.extra.MarkerValueExtra.TheVariants as extra_values

-- an extra by its name or its text
abbrev pub extra_text : MarkerValueExtra → List ℕ
extra_text (extra_values.Extra n) = n
extra_text (extra_values.Arbitrary t) = string_bytes t

-- a key, an operator and a quoted text after them
abbrev pub compared_text : List ℕ → List ℕ → List ℕ → List ℕ
compared_text key operator quoted = key ++ (codes " " ++ (operator ++ (codes " " ++ quoted)))

-- the version of a specifier, with `.*` if the operator is a star
abbrev pub pattern_text : Specifier → List ℕ
pattern_text s = version_text s.version ++ (if is_star s.operator then codes ".*" else [])

-- a version after a space
abbrev pub next_version_text : Parts → List ℕ
next_version_text v = codes " " ++ version_text v

-- versions, each after a space
abbrev pub others_text : List Parts → List ℕ
others_text versions = flat_map next_version_text versions

-- versions with a space between each two
abbrev pub list_text : List Parts → List ℕ
list_text [] = []
list_text (v ∷ versions) = version_text v ++ flat_map next_version_text versions

abbrev pub in_text : Bool → List ℕ
in_text negated = if negated then codes "not in" else codes "in"

-- `Contains` and `NotContains` have the text on the left side
abbrev pub text_test_text : List ℕ → MarkerOperator → List ℕ → List ℕ
text_test_text key Contains quoted = compared_text quoted (codes "in") key
text_test_text key NotContains quoted = compared_text quoted (codes "not in") key
text_test_text key operator quoted = compared_text key (operator_text operator) quoted

abbrev pub expression_text : MarkerExpression → List ℕ
expression_text (expressions.Version key s) =
    compared_text (version_key_name key) (specifiers.operator_text s.operator)
    (codes "'" ++ (pattern_text s ++ codes "'"))
expression_text (expressions.VersionIn key versions negated) =
    compared_text (version_key_name key) (in_text negated)
    (codes "'" ++ (list_text versions.items ++ codes "'"))
expression_text (expressions.String key operator value) =
    text_test_text (variable_name (variable_of key)) operator (quoted_text (string_bytes value))
expression_text (expressions.Extra operator x) =
    compared_text (codes "extra") (extra_operator_text operator) (quoted_text (extra_text x))
