-- Tokens that stay in postfix order, one after another.
use Rattle.std.proofs.Common.{◌≡◌, ◌≤◌, ◌+◌, Bool, true, List, [], ◌∷◌, ◌++◌, length, refl, ap, ◌∙◌, arith}
use Rattle.std.specs.Prelude.{map, ◌&&◌, if◌then◌else◌}
use Rattle.std.proofs.lemmas.List.{map_push}
use Rattle.marker_grammar.specs.declared.formula.Token.{Token}
use Rattle.marker_grammar.specs.Formula.{Formula}
use Rattle.marker_grammar.specs.Postfix.{Symbol, stack_after, stack_from, stack_of, symbol_of, fits, all_fit, IsPostfix}
use Rattle.marker_grammar.specs.Postfix as symbols
use Rattle.marker_grammar.specs.Stack.{count}

first_of : (a b : Bool) → (a && b) ≡ true → a ≡ true
first_of a b h1 = grind arith

second_of : (a b : Bool) → (a && b) ≡ true → b ≡ true
second_of a b h1 = grind arith

both_true : (a b : Bool) → a ≡ true → b ≡ true → (a && b) ≡ true
both_true a b p q = (λ i. p i && q i)

-- a symbol that fits may follow
all_fit-push : (stack : List Formula) (xs : List Symbol) (x : Symbol) → all_fit stack xs ≡ true → fits x (stack_from stack xs) ≡ true → all_fit stack (xs ++ (x ∷ [])) ≡ true
all_fit-push stack [] x all fit = both_true _ _ fit refl
all_fit-push stack (y ∷ xs) x all fit = both_true _ _ (first_of _ _ all) (all_fit-push (stack_after y stack) xs x (second_of _ _ all) fit)

pub postfix_put : (ts : List Token) (t : Token) → IsPostfix ts → fits (symbol_of t) (stack_of ts) ≡ true → IsPostfix (ts ++ (t ∷ []))
postfix_put ts t all fit = ap (all_fit []) (map_push symbol_of ts t) ∙ all_fit-push [] (map symbol_of ts) (symbol_of t) all fit

-- with two formulas on the stack everything fits
fits_two : (s : Symbol) (stack : List Formula) → 2 ≤ length stack → fits s stack ≡ true
fits_two s stack h1 = grind arith

-- two formulas are joined if both exist
pub postfix_join : (first second : Bool) (t : Token) (old : List Token) {new : List Token} → new ≡ (if first && second then old ++ (t ∷ []) else old) →
    count second + count first ≤ length (stack_of old) → IsPostfix old → IsPostfix new
postfix_join first second t old h1 h2 h3 = grind (arith, postfix_put, fits_two)
