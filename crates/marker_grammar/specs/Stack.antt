-- Lists that may have a formula so far: their formulas are on a stack.
use Rattle.std.specs.Prelude.{◌≡◌, ℕ, ◌+◌, ◌++◌, Bool, true, false, if◌then◌else◌, List, [], ◌∷◌, Option, None, Vec, length, option_map}
use Rattle.marker_parts.specs.Expression.{test_of}
use Rattle.marker_parts.specs.declared.expression.MarkerExpression.{MarkerExpression}
use Rattle.marker_grammar.specs.declared.formula.Token.{Token}
use Rattle.marker_grammar.specs.Formula.{Formula, and_of, of_test}
use Rattle.marker_grammar.specs.Postfix.{stack_of, top_of}

-- the formula of a list that may have one: on top of the stack if it has
abbrev pub top_if : Bool → List Formula → Option Formula
top_if true stack = top_of stack
top_if false stack = None

-- the stack below it
abbrev pub below : Bool → List Formula → List Formula
below false stack = stack
below true [] = []
below true (f ∷ stack) = stack

-- how many formulas a list has
abbrev pub count : Bool → ℕ
count true = 1
count false = 0

-- a formula, or nothing, joins an `and` that may have a formula yet, and has one then if any of
-- them is
pub record Appends (has_and any : Bool) (added : Option Formula) (old new : List Formula) :
    Type 0 where
  pub top : top_if any new ≡ and_of (top_if has_and old) added
  pub rest : below any new ≡ below has_and old
  pub length_is : length new + count has_and ≡ length old + count any

-- an expression, or nothing, joins an `and` of the tokens that may have a formula yet
abbrev pub AppendsExpression : {A : Type 0} → Bool → Option MarkerExpression
    → Vec Token A → Vec Token A → Bool → Type 0
AppendsExpression has_and expression old new any =
    Appends has_and any (of_test (option_map test_of expression))
    (stack_of old.items) (stack_of new.items)

-- the connective is added to the tokens if there are two formulas to join
abbrev pub AddsIf : {A : Type 0} → Bool → Token → Vec Token A → Vec Token A → Type 0
AddsIf both connective old new =
    new.items ≡ (if both then old.items ++ connective ∷ [] else old.items)
