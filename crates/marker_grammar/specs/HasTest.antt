-- Formulas one of whose tests is of a kind.
use Rattle.std.specs.Prelude.{◌⊎◌, Option, Some, None}
use Rattle.marker_parts.specs.Expression.{Test}
use Rattle.marker_grammar.specs.Formula.{Formula, test, both, either}
use Rattle.marker_grammar.specs.Postfix.{Symbol}
use Rattle.marker_grammar.specs.Postfix as symbols

module _ (Kind : Test → Type 0) where
  -- one of the tests is of the kind
  abbrev pub HasTest : Formula → Type 0
  HasTest (test t) = Kind t
  HasTest (both f g) = HasTest f ⊎ HasTest g
  HasTest (either f g) = HasTest f ⊎ HasTest g

  -- what a text says has such a test
  abbrev pub Says : Option Formula → Type 0
  Says None = ⊥
  Says (Some f) = HasTest f

  -- the symbol is such a test
  abbrev pub IsSymbol : Symbol → Type 0
  IsSymbol (symbols.test t) = Kind t
  IsSymbol symbols.and = ⊥
  IsSymbol symbols.or = ⊥
