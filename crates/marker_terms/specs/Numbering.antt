-- Comparisons by numbers: a comparison and its negation have the numbers 2 n and 2 n + 1.
use Rattle.std.specs.Prelude.{◌≡◌, ◌==◌, ◌<◌, ◌/◌, ◌%◌, ◌++◌, ℕ, Bool, not, false, List, length, map, slice_get, if◌then◌else◌, Vec}
use Rattle.std.specs.List.{AllByRecursion}
use Rattle.std.specs.Option.{option_map_or}
use Rattle.marker_parts.specs.declared.expression.MarkerExpression.{MarkerExpression}
use Rattle.marker_terms.specs.declared.numbered.NumberedTerm.{NumberedTerm}
use Rattle.marker_terms.specs.Numbered.{number_of}
use Rattle.marker_terms.specs.Reduction.{reduced}
use Rattle.marker_environment.specs.Valuation.{Valuation}
use Rattle.marker_terms.specs.Clauses.{term_holds, clauses_of}

-- whether the comparison with a name holds: none does past the names
abbrev pub name_holds : List MarkerExpression → ℕ → Valuation → Bool
name_holds names n v = option_map_or (λ t. term_holds t v) (slice_get names n) false

-- whether the comparison with a number holds
abbrev pub number_holds : List MarkerExpression → ℕ → Valuation → Bool
number_holds names n v =
    if n % 2 == 0 then name_holds names (n / 2) v else not (name_holds names (n / 2) v)

-- a comparison has a number: it is true where that of the number is
pub record IsNumbered (names : List MarkerExpression) (n : ℕ) (term : MarkerExpression)
    : Type 0 where
  pub within : n / 2 < length names
  pub means : (v : Valuation) → term_holds term v ≡ number_holds names n v

-- names, and more after them
abbrev pub Extends : List MarkerExpression → List MarkerExpression → Type 0
Extends old new = (more : List MarkerExpression) × (new ≡ old ++ more)

abbrev pub expression_of : NumberedTerm → MarkerExpression
expression_of t = t.expression

-- each term has its number
abbrev pub AreNumbered : List MarkerExpression → List NumberedTerm → Type 0
AreNumbered names terms = AllByRecursion (λ t. IsNumbered names t.number t.expression) terms

-- clauses of numbered terms are these clauses
pub record IsNumberingOf (clauses : List (List MarkerExpression))
    (numbered : List (List NumberedTerm)) : Type 0 where
  pub names : List MarkerExpression
  pub terms : map (map expression_of) numbered ≡ clauses
  pub numbers : AllByRecursion (AreNumbered names) numbered

-- what is left of clauses: their terms can be numbered, and these are the reduced ones
pub record IsReductionOf (remaining clauses : List (List MarkerExpression)) : Type 0 where
  pub numbered : List (List NumberedTerm)
  pub numbering : IsNumberingOf clauses numbered
  pub left : remaining ≡ map (map expression_of) (reduced number_of numbered)

-- what is left of clauses is a reduction of them
abbrev pub IsReducedFrom : {A B C D : Type 0} → Vec (Vec MarkerExpression A) B
    → Vec (Vec MarkerExpression C) D → Type 0
IsReducedFrom clauses left = IsReductionOf (clauses_of left.items) (clauses_of clauses.items)

-- the comparisons of numbered terms
abbrev pub expressions_of : List (List NumberedTerm) → List (List MarkerExpression)
expressions_of numbered = map (map expression_of) numbered
