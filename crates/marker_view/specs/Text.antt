-- The text of a marker, by its truth.
use Rattle.std.specs.Prelude.{◌≡◌, ℕ, Bool, true, false, List, Option, Some, None, codes}
use Rattle.pep508_errors.specs.declared.warning.MarkerWarningKind.{MarkerWarningKind}
use Rattle.marker_environment.specs.Valuation.{Valuation}
use Rattle.marker_parts.specs.Expression.{Overflows}
use Rattle.marker_grammar.specs.Formula.{Formula}
use Rattle.marker_grammar.specs.Formula as formulas
use Rattle.marker_grammar.specs.Grammar.{Reads}
use Rattle.marker_grammar.specs.HasTest.{Says}
use Rattle.marker_view.specs.Readable.{IsReadableTruth}

-- the text parses as a formula that is true exactly where the truth is, and no test of it overflows
pub record ReadsBack (f : Valuation → Bool) (text : List ℕ) : Type 0 where
  pub formula : Option Formula
  pub kinds : List MarkerWarningKind
  pub reads : Reads text formula kinds
  pub means : (v : Valuation) → formulas.truth formula v ≡ f v
  pub fits : ¬ Says Overflows formula

-- A text of the truth, which is false somewhere. If it is false everywhere, the text is
-- `python_version < '0'`; otherwise that of a readable truth parses back.
pub record IsTextOf (f : Valuation → Bool) (text : List ℕ) : Type 0 where
  pub somewhere_false : (v : Valuation) × (f v ≡ false)
  pub falsehood : ((v : Valuation) → f v ≡ false) → text ≡ codes "python_version < '0'"
  pub read_back : (v : Valuation) → f v ≡ true → IsReadableTruth f → ReadsBack f text

-- only a truth that is true everywhere has no text
abbrev pub TellsText : (Valuation → Bool) → Option (List ℕ) → Type 0
TellsText f None = (v : Valuation) → f v ≡ true
TellsText f (Some text) = IsTextOf f text
