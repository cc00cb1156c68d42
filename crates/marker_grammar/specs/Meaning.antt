-- What clauses mean, and what a text says that is read as they are meant.
use Rattle.std.specs.Prelude.{◌≡◌, ℕ, List, Option}
use Rattle.marker_environment.specs.Valuation.{Valuation}
use Rattle.pep508_errors.specs.declared.warning.MarkerWarningKind.{MarkerWarningKind}
use Rattle.marker_parts.specs.declared.expression.MarkerExpression.{MarkerExpression}
use Rattle.marker_parts.specs.Expression.{Overflows}
use Rattle.marker_grammar.specs.Formula.{Formula, truth}
use Rattle.marker_grammar.specs.Grammar.{Reads}
use Rattle.marker_grammar.specs.HasTest.{Says}
pub use Rattle.marker_terms.specs.Clauses.{clauses_of, clause_holds, clauses_hold}

-- the text parses as a formula that is true exactly where one of the clauses is, and no test of it
-- overflows
pub record IsReadAs (clauses : List (List MarkerExpression)) (text : List ℕ) : Type 0 where
  pub formula : Option Formula
  pub kinds : List MarkerWarningKind
  pub reads : Reads text formula kinds
  pub means : (v : Valuation) → truth formula v ≡ clauses_hold clauses v
  pub fits : ¬ Says Overflows formula
