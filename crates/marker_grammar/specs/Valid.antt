-- `~=` compares no texts.
use Rattle.std.specs.Prelude.{◌≡◌, Bool, true, false, ◌&&◌, IfSome, List, [], ◌∷◌, Option, Vec, map}
use Rattle.marker_words.specs.declared.operator.MarkerOperator.TheVariants.{TildeEqual}
use Rattle.marker_parts.specs.Expression.{Test, test_of, text}
use Rattle.marker_parts.specs.declared.expression.MarkerExpression.{MarkerExpression}
use Rattle.marker_grammar.specs.declared.formula.Token.{Token}
use Rattle.marker_grammar.specs.Postfix.{Symbol, test, and, or, symbol_of}

abbrev pub is_valid : Test → Bool
is_valid (text key TildeEqual value) = false
is_valid t = true

abbrev pub is_valid_symbol : Symbol → Bool
is_valid_symbol (test t) = is_valid t
is_valid_symbol and = true
is_valid_symbol or = true

abbrev pub are_valid : List Symbol → Bool
are_valid [] = true
are_valid (s ∷ symbols) = is_valid_symbol s && are_valid symbols

-- none of the tests compares texts by `~=`
abbrev pub IsValid : List Token → Type 0
IsValid ts = are_valid (map symbol_of ts) ≡ true

-- this stays so if an expression that is added does not compare texts by `~=` either
abbrev pub StaysValidWith : {A : Type 0} → Option MarkerExpression → Vec Token A → Vec Token A
    → Type 0
StaysValidWith expression old new = IfSome expression (λ e. is_valid (test_of e) ≡ true)
    → IsValid old.items → IsValid new.items
