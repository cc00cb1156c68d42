-- What a call says of one marker.
use Rattle.std.specs.Prelude.{◌≡◌, ℕ, List, [], Bool, Option, unwrap_or}
use Rattle.pep508_errors.specs.declared.warning.MarkerWarningKind.{MarkerWarningKind}
use Rattle.marker_environment.specs.Environment.{Values, valuation_of}
use Rattle.marker_environment.specs.Valuation.{Valuation}
use Rattle.marker_graph.specs.declared.tree.MarkerTree.{MarkerTree}
use Rattle.marker_graph.specs.Contents.{Contents, IsHeld, truth}
use Rattle.marker_parts.specs.Expression.{Overflows}
use Rattle.marker_grammar.specs.Formula.{Formula}
use Rattle.marker_grammar.specs.Formula as formulas
use Rattle.marker_grammar.specs.Grammar.{Reads}
use Rattle.marker_grammar.specs.HasTest as tests
use Rattle.marker_view.specs.Text.{TellsText}
use Rattle.foreign_calls.specs.declared.environment.Environment.{Environment}
use Rattle.foreign_calls.specs.Environment.{AreGiven, Names}

-- the text is a marker of this truth, and none of its comparisons raises the largest number
pub record Says (text : List ℕ) (f : Valuation → Bool) : Type 0 where
  pub formula : Option Formula
  pub kinds : List MarkerWarningKind
  pub reads : Reads text formula kinds
  pub no_overflow : ¬ tests.Says Overflows formula
  pub means : (v : Valuation) → f v ≡ formulas.truth formula v

-- the tree stands in the interner and means what the text says
pub record IsTreeFor (c : Contents) (text : List ℕ) (t : MarkerTree) : Type 0 where
  pub held : IsHeld c t
  pub says : Says text (truth c t)

-- the bytes are the text that tells the truth, and none where it is true everywhere
pub record IsTextOf (f : Valuation → Bool) (bytes : List ℕ) : Type 0 where
  pub told : Option (List ℕ)
  pub tells : TellsText f told
  pub bytes_are : bytes ≡ unwrap_or told []

-- the bytes are the normal text of the marker
pub record IsNormal (text bytes : List ℕ) : Type 0 where
  pub truth : Valuation → Bool
  pub says : Says text truth
  pub written : IsTextOf truth bytes

-- the truth has this value in the environment with these extras
pub record HasValue (f : Valuation → Bool) (e : Environment) (extras : List (List ℕ))
    (value : Bool) : Type 0 where
  pub values : Values
  pub given : AreGiven e values
  pub names : List (List ℕ)
  pub are_names : Names extras names
  pub value_is : value ≡ f (valuation_of values names)

-- the text is a marker that has this value at these values with these extras
pub record IsValueAt (text : List ℕ) (values : Values) (names : List (List ℕ)) (value : Bool)
    : Type 0 where
  pub truth : Valuation → Bool
  pub says : Says text truth
  pub value_is : value ≡ truth (valuation_of values names)

-- the text is a marker that has this value in the environment with these extras
pub record IsTrueIn (text : List ℕ) (e : Environment) (extras : List (List ℕ)) (value : Bool)
    : Type 0 where
  pub truth : Valuation → Bool
  pub says : Says text truth
  pub has_value : HasValue truth e extras value
