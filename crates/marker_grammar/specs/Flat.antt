-- The formula of a list of tokens.
use Rattle.std.specs.Prelude.{Option}
use Rattle.marker_grammar.specs.declared.formula.FlatFormula.{FlatFormula}
use Rattle.marker_grammar.specs.Formula.{Formula}
use Rattle.marker_grammar.specs.Postfix.{stack_of, top_of}

-- the one that the tokens leave, or nothing
abbrev pub formula_of : FlatFormula → Option Formula
formula_of flat = top_of (stack_of flat.tokens.items)
