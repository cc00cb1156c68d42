-- No test of a marker text compares texts by `~=`: such a comparison is dropped.
use Rattle.std.proofs.Common.{◌≡◌, ℕ, Bool, true, List, [], ◌∷◌, ◌++◌, Option, sym, ap, ◌∙◌, subst, arith}
use Rattle.std.specs.Prelude.{◌&&◌, if◌then◌else◌, map, option_map, IfSome}
use Rattle.std.proofs.lemmas.List.{map_push}
use Rattle.marker_words.specs.declared.key.MarkerValueString.{MarkerValueString}
use Rattle.marker_words.specs.declared.key.MarkerValueVersion.{MarkerValueVersion}
use Rattle.marker_words.specs.declared.operator.MarkerOperator.{MarkerOperator}
use Rattle.marker_words.specs.Lexical.{Value}
use Rattle.pep508_errors.specs.declared.warning.MarkerWarningKind.{MarkerWarningKind}
use Rattle.marker_parts.specs.declared.expression.MarkerExpression.{MarkerExpression}
use Rattle.marker_parts.specs.Expression.{Extra, Test, test_of}
use Rattle.marker_parts.specs.Comparison.{Meaning, text_meaning, extra_meaning, MeansBehind, MeansBefore, Means, Compared, compared}
use Rattle.marker_grammar.specs.declared.formula.Token.{Token}
use Rattle.marker_grammar.specs.Postfix.{Symbol, symbol_of}
use Rattle.marker_grammar.specs.Valid.{is_valid, is_valid_symbol, are_valid, IsValid}

-- the test of a comparison
abbrev Valid : Option Test → Type 0
Valid asked = IfSome asked (λ t. is_valid t ≡ true)

valid_text : (key : MarkerValueString) (operator : MarkerOperator) (t : List ℕ) → Valid (text_meaning key operator t).test
valid_text key operator t = grind arith

valid_extra : (operator : MarkerOperator) (x : Extra) (kinds : List MarkerWarningKind) → Valid (extra_meaning operator x kinds).test
valid_extra operator x kinds = grind arith

valid_behind : (key : MarkerValueVersion) (operator : MarkerOperator) (t : List ℕ) (m : Meaning) → MeansBehind key operator t m → Valid m.test
valid_behind key operator t m h1 = grind arith

valid_before : (key : MarkerValueVersion) (operator : MarkerOperator) (t : List ℕ) (m : Meaning) → MeansBefore key operator t m → Valid m.test
valid_before key operator t m h1 = grind arith

valid_means : (left right : Value) (operator : MarkerOperator) (m : Meaning) → Means left operator right m → Valid m.test
valid_means left right operator m h1 = grind (arith, valid_text, valid_extra, valid_behind, valid_before)

valid_compared : (input output : List ℕ) (m : Meaning) → Compared input output m → Valid m.test
valid_compared input output m (compared both means) = valid_means _ _ _ m means

valid_option : (expression : Option MarkerExpression) → Valid (option_map test_of expression) → IfSome expression (λ e. is_valid (test_of e) ≡ true)
valid_option expression h1 = grind arith

-- the expression that is read
pub valid_read : (input output : List ℕ) (m : Meaning) (expression : Option MarkerExpression) → Compared input output m → option_map test_of expression ≡ m.test → IfSome expression (λ e. is_valid (test_of e) ≡ true)
valid_read input output m expression c same = valid_option expression (subst Valid (sym same) (valid_compared input output m c))

valid_push : (xs : List Symbol) (s : Symbol) → are_valid xs ≡ true → is_valid_symbol s ≡ true → are_valid (xs ++ (s ∷ [])) ≡ true
valid_push [] s all one = (λ i. one i && true)
valid_push (x ∷ xs) s all one = grind (arith, valid_push xs s)

-- one more token
pub valid_put : (ts : List Token) (t : Token) → IsValid ts → is_valid_symbol (symbol_of t) ≡ true → IsValid (ts ++ (t ∷ []))
valid_put ts t all one = ap are_valid (map_push symbol_of ts t) ∙ valid_push (map symbol_of ts) (symbol_of t) all one

-- or a connective, if it is put
pub valid_join : (both : Bool) (t : Token) (old : List Token) {new : List Token} → new ≡ (if both then old ++ (t ∷ []) else old) → is_valid_symbol (symbol_of t) ≡ true → IsValid old → IsValid new
valid_join both t old h1 h2 h3 = grind (arith, valid_put)
