-- Plain expressions, as they are printed.
use Rattle.std.proofs.Common.{◌≡◌, arith}
use Rattle.std.proofs.lemmas.Str.{IsUtf8-string_bytes}
use Rattle.marker_environment.specs.Valuation.{Valuation}
use Rattle.marker_words.specs.declared.operator.MarkerOperator.TheVariants.{Equal, NotEqual, GreaterThan, GreaterEqual, LessThan, LessEqual, TildeEqual, In, NotIn, Contains, NotContains}
use Rattle.marker_words.specs.Key.{variable_of}
use Rattle.marker_parts.specs.declared.expression.MarkerExpression.{MarkerExpression}
use Rattle.marker_parts.specs.declared.expression.MarkerExpression.TheVariants as expressions
use Rattle.marker_parts.specs.Expression.{Overflows, holds, test_of}
use Rattle.marker_terms.specs.Plain.{IsPlain}
use Rattle.marker_grammar.proofs.Printed.{IsPrinted, read_test}
use Rattle.marker_grammar.proofs.TextTerms.{text_printed}
use Rattle.marker_grammar.proofs.VersionTerms.{version_printed}
use Rattle.marker_grammar.proofs.ExtraTerms.{extra_printed}

pub printed : (e : MarkerExpression) → IsPlain (test_of e) → IsPrinted e
printed (expressions.Version key s) h = version_printed key s h.0 h.1
printed (expressions.VersionIn key versions negated) h = absurd h
printed (expressions.String key Equal value) h = text_printed (variable_of key) Equal _ tt (IsUtf8-string_bytes value) h
printed (expressions.String key NotEqual value) h = text_printed (variable_of key) NotEqual _ tt (IsUtf8-string_bytes value) h
printed (expressions.String key GreaterThan value) h = text_printed (variable_of key) GreaterThan _ tt (IsUtf8-string_bytes value) h
printed (expressions.String key GreaterEqual value) h = text_printed (variable_of key) GreaterEqual _ tt (IsUtf8-string_bytes value) h
printed (expressions.String key LessThan value) h = text_printed (variable_of key) LessThan _ tt (IsUtf8-string_bytes value) h
printed (expressions.String key LessEqual value) h = text_printed (variable_of key) LessEqual _ tt (IsUtf8-string_bytes value) h
printed (expressions.String key TildeEqual value) h = absurd h
printed (expressions.String key In value) h = text_printed (variable_of key) In _ tt (IsUtf8-string_bytes value) h
printed (expressions.String key NotIn value) h = text_printed (variable_of key) NotIn _ tt (IsUtf8-string_bytes value) h
printed (expressions.String key Contains value) h = text_printed (variable_of key) Contains _ tt (IsUtf8-string_bytes value) h
printed (expressions.String key NotContains value) h = text_printed (variable_of key) NotContains _ tt (IsUtf8-string_bytes value) h
printed (expressions.Extra operator x) h = extra_printed operator x h

-- what is read of an expression means what it means
pub means : (e : MarkerExpression) (v : Valuation) → holds (read_test e) v ≡ holds (test_of e) v
means e v = grind arith

pub overflows : (e : MarkerExpression) → Overflows (read_test e) → Overflows (test_of e)
overflows e h1 = grind arith
