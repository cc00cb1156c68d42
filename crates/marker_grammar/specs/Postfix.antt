-- Formulas in postfix order: a list of symbols leaves a stack of formulas, the last one first.
use Rattle.std.specs.Prelude.{◌≡◌, ◌≤◌, Bool, true, false, ◌&&◌, List, [], ◌∷◌, length, Option, Some, None, map}
use Rattle.marker_parts.specs.Expression.{Test}
use Rattle.marker_parts.specs.Expression.{test_of}
use Rattle.marker_grammar.specs.declared.formula.Token.{Token}
use Rattle.marker_grammar.specs.declared.formula.Token.TheVariants as tokens
use Rattle.marker_grammar.specs.Formula.{Formula, both, either}
use Rattle.marker_grammar.specs.Formula as formulas

pub data Symbol : Type 0 where
  test : Test → Symbol
  and : Symbol
  or : Symbol

-- a test is put on the stack, and a connective joins the two formulas on top
abbrev pub stack_after : Symbol → List Formula → List Formula
stack_after (test t) stack = formulas.test t ∷ stack
stack_after and (g ∷ f ∷ stack) = both f g ∷ stack
stack_after and (g ∷ []) = []
stack_after and [] = []
stack_after or (g ∷ f ∷ stack) = either f g ∷ stack
stack_after or (g ∷ []) = []
stack_after or [] = []

abbrev pub stack_from : List Formula → List Symbol → List Formula
stack_from stack [] = stack
stack_from stack (symbol ∷ symbols) = stack_from (stack_after symbol stack) symbols

abbrev pub symbol_of : Token → Symbol
symbol_of (tokens.Expression e) = test (test_of e)
symbol_of tokens.And = and
symbol_of tokens.Or = or

-- the formulas that these tokens leave
abbrev pub stack_of : List Token → List Formula
stack_of ts = stack_from [] (map symbol_of ts)

-- the formula on top, or nothing
abbrev pub top_of : List Formula → Option Formula
top_of [] = None
top_of (f ∷ stack) = Some f

-- a connective finds two formulas to join
abbrev pub fits : Symbol → List Formula → Bool
fits (test t) stack = true
fits and (g ∷ f ∷ stack) = true
fits and (g ∷ []) = false
fits and [] = false
fits or (g ∷ f ∷ stack) = true
fits or (g ∷ []) = false
fits or [] = false

abbrev pub all_fit : List Formula → List Symbol → Bool
all_fit stack [] = true
all_fit stack (symbol ∷ symbols) = fits symbol stack && all_fit (stack_after symbol stack) symbols

-- each connective joins two formulas before it
abbrev pub IsPostfix : List Token → Type 0
IsPostfix ts = all_fit [] (map symbol_of ts) ≡ true

-- and one formula is left, or nothing
abbrev pub IsWhole : List Token → Type 0
IsWhole ts = IsPostfix ts × (length (stack_of ts) ≤ 1)
