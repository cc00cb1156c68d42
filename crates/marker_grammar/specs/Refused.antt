-- Why a text was not read.
use Rattle.std.specs.Prelude.{◌≡◌, ◌≢◌, ◌⊎◌, ℕ, List, [], ◌∷◌, ◌++◌, Option, encode_utf8}
use Rattle.std.specs.Str.{chars}
use Rattle.marker_words.specs.declared.fault.Fault.{Fault}
use Rattle.marker_words.specs.Fault.{IsFault}
use Rattle.pep508_errors.specs.declared.warning.MarkerWarningKind.{MarkerWarningKind}
use Rattle.marker_parts.specs.declared.comparison.ComparisonError.{ComparisonError}
use Rattle.marker_parts.specs.declared.comparison.ComparisonError.TheVariants as errors
use Rattle.marker_grammar.specs.Formula.{Formula}
use Rattle.marker_grammar.specs.Grammar.{Reads}

-- the grammar has the text
abbrev pub IsMarker : List ℕ → Type 0
IsMarker text = (f : Option Formula) × ((k : List MarkerWarningKind) × Reads text f k)

-- a text that begins with a parenthesis, and the rest of it is a marker
abbrev pub OpensMarker : List ℕ → Type 0
OpensMarker text = (back : List ℕ) → text ≡ encode_utf8 40 ++ back → IsMarker back

-- the grammar does not have the text
abbrev pub IsNoMarker : List ℕ → Type 0
IsNoMarker text = (f : Option Formula) (k : List MarkerWarningKind) → Reads text f k → ⊥

-- a fault that is true of the text; a parenthesis is not closed if a marker follows it, to the end
-- of the text
abbrev pub IsTextFault : List ℕ → Fault → Type 0
IsTextFault = IsFault IsMarker

-- memory ran out, or the fault is true of the text and the grammar does not have it
abbrev pub IsRefusal : List ℕ → ComparisonError → Type 0
IsRefusal text errors.OutOfMemory = Unit {0}
IsRefusal text (errors.Fault e) = IsTextFault text e × IsNoMarker text

-- the text does not begin with a closing parenthesis; 41 is `)`
abbrev pub DoesNotClose : List ℕ → Type 0
DoesNotClose text = (others : List ℕ) → chars text ≢ 41 ∷ others

-- The fault where a parenthesis should close: of the text there, or of the text from the opening
-- one on, which opens a marker if nothing is left.
abbrev pub IsUnclosedFault : List ℕ → List ℕ → Fault → Type 0
IsUnclosedFault text group e = DoesNotClose text → (chars text ≡ [] → OpensMarker group)
    → IsTextFault text e ⊎ IsTextFault group e
