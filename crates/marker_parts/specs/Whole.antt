-- A text that is one comparison, with white space around it (PEP 508, "Grammar").
use Rattle.std.specs.Prelude.{◌≡◌, ℕ, List, [], Option, option_map, ⊤}
use Rattle.std.specs.Str.{chars}
use Rattle.pep508_text.specs.Run.{Spaces}
use Rattle.pep508_errors.specs.declared.warning.MarkerWarningKind.{MarkerWarningKind}
use Rattle.marker_words.specs.Fault.{IsWordFault}
use Rattle.marker_parts.specs.declared.expression.MarkerExpression.{MarkerExpression}
use Rattle.marker_parts.specs.declared.comparison.ComparisonError.{ComparisonError}
use Rattle.marker_parts.specs.declared.comparison.ComparisonError.TheVariants.{OutOfMemory, Fault}
use Rattle.marker_parts.specs.Expression.{test_of}
use Rattle.marker_parts.specs.Comparison.{Meaning, Compared}

-- the text is one comparison
pub record IsComparison (text : List ℕ) (m : Meaning) : Type 0 where
  pub rest : List ℕ
  pub compared : Compared (chars text) rest m
  pub end : Spaces rest []

abbrev Kinds : Type 0
Kinds = List MarkerWarningKind

-- the expression is the test of the text, or nothing if it is dropped, and these are the kinds of
-- its warnings
pub record IsRead (text : List ℕ) (expression : Option MarkerExpression) (kinds : Kinds) :
    Type 0 where
  pub meaning : Meaning
  pub comparison : IsComparison text meaning
  pub test : option_map test_of expression ≡ meaning.test
  pub kinds_are : kinds ≡ meaning.kinds

abbrev pub IsNoComparison : List ℕ → Type 0
IsNoComparison text = (m : Meaning) → ¬ IsComparison text m

-- why the text is not parsed: memory ran out, or it is not a comparison, as the fault says
abbrev pub IsRefusal : List ℕ → ComparisonError → Type 0
IsRefusal text OutOfMemory = ⊤
IsRefusal text (Fault fault) = IsNoComparison text × IsWordFault text fault

-- the expression is read from the text
abbrev pub IsReadFrom : List ℕ → Option MarkerExpression → Type 0
IsReadFrom text expression = (kinds : Kinds) × IsRead text expression kinds
