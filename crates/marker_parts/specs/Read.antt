-- The results of the parser of one comparison. Texts are bytes here, and characters in the grammar.
use Rattle.std.specs.Prelude.{◌≡◌, ℕ, List, ◌++◌, Option, option_map, ⊤}
use Rattle.std.specs.Str.{chars}
use Rattle.marker_words.specs.declared.parts.ComparisonRef.{ComparisonRef}
use Rattle.marker_words.specs.Part.{value_of}
use Rattle.marker_words.specs.Fault.{HasNoSides, IsWordFault}
use Rattle.pep508_errors.specs.declared.warning.MarkerWarningKind.{MarkerWarningKind}
use Rattle.marker_parts.specs.declared.expression.MarkerExpression.{MarkerExpression}
use Rattle.marker_parts.specs.declared.meaning.Outcome.{Outcome}
use Rattle.marker_parts.specs.declared.comparison.ComparisonError.{ComparisonError}
use Rattle.marker_parts.specs.declared.comparison.ComparisonError.TheVariants.{OutOfMemory, Fault}
use Rattle.marker_parts.specs.Expression.{test_of, extra_of}
use Rattle.marker_parts.specs.Comparison.{Meaning, Means, Compared, IsExtra, extra_kinds}
use Rattle.std.specs.Borrow.{Bor}
use Rattle.marker_parts.specs.declared.extra.MarkerValueExtra.{MarkerValueExtra}

abbrev pub meaning_of : Outcome → Meaning
meaning_of outcome = record {
  test = option_map test_of outcome.expression;
  kinds = outcome.kinds.items;
}

-- what the two sides of a comparison and the operator between them come to
abbrev pub IsMeaningOf : ComparisonRef → Meaning → Type 0
IsMeaningOf c = Means (value_of c.left) c.operator (value_of c.right)

-- The text begins with a comparison, and `rest` follows it. The expression is its test, or nothing
-- if it is dropped, and the kinds of its warnings are appended to the old ones.
pub record ReadsComparison (text rest : List ℕ) (expression : Option MarkerExpression)
    (old new : List MarkerWarningKind) : Type 0 where
  pub meaning : Meaning
  pub compared : Compared (chars text) (chars rest) meaning
  pub test : option_map test_of expression ≡ meaning.test
  pub kinds : new ≡ old ++ meaning.kinds

-- the text does not begin with a comparison
pub record HasNoComparison (input : List ℕ) : Type 0 where
  pub no_sides : HasNoSides input
  pub no_compared : (output : List ℕ) (m : Meaning) → Compared input output m → ⊥

-- why no comparison is parsed: memory ran out, or the text does not begin with one, as the fault
-- says
abbrev pub IsRefusal : List ℕ → ComparisonError → Type 0
IsRefusal text OutOfMemory = ⊤
IsRefusal text (Fault fault) = HasNoComparison (chars text) × IsWordFault text fault

-- the text begins with a comparison, which is read with the rest, and its kinds are appended
abbrev pub ReadsFront : List ℕ → List MarkerWarningKind → List MarkerWarningKind
    → Option MarkerExpression × Bor (List ℕ) → Type 0
ReadsFront text old new read = ReadsComparison text read.1.now read.0 old new

-- an outcome has this meaning
abbrev pub HasMeaning : Meaning → Outcome → Type 0
HasMeaning meaning outcome = meaning_of outcome ≡ meaning

-- the extra of a quoted text, with the kinds of its warnings
abbrev pub IsExtraOf : List ℕ → MarkerValueExtra → Type 0
IsExtraOf text extra = IsExtra text (extra_of extra) (extra_kinds (extra_of extra))
