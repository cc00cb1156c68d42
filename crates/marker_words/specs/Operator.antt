-- The operators of comparisons, as they are written (PEP 508, whose `===` is not an operator of
-- markers here).
use Rattle.std.specs.Prelude.{ℕ, List, [], codes}
use Rattle.marker_words.specs.declared.operator.MarkerOperator.{MarkerOperator}
use Rattle.marker_words.specs.declared.operator.MarkerOperator.TheVariants.{Equal, NotEqual, GreaterThan, GreaterEqual, LessThan, LessEqual, TildeEqual, In, NotIn, Contains, NotContains}
use Rattle.marker_words.specs.declared.operator.ExtraOperator.{ExtraOperator}
use Rattle.marker_words.specs.declared.operator.ExtraOperator.TheVariants as extra_operators
use Rattle.marker_words.specs.Lexical.{IsOperator}

abbrev pub operator_text : MarkerOperator → List ℕ
operator_text Equal = codes "=="
operator_text NotEqual = codes "!="
operator_text GreaterThan = codes ">"
operator_text GreaterEqual = codes ">="
operator_text LessThan = codes "<"
operator_text LessEqual = codes "<="
operator_text TildeEqual = codes "~="
operator_text In = codes "in"
operator_text NotIn = codes "not in"
operator_text Contains = codes "in"
operator_text NotContains = codes "not in"

abbrev pub extra_operator_text : ExtraOperator → List ℕ
extra_operator_text extra_operators.Equal = codes "=="
extra_operator_text extra_operators.NotEqual = codes "!="

-- the operator that says the same with its sides exchanged
abbrev pub turned : MarkerOperator → MarkerOperator
turned Equal = Equal
turned NotEqual = NotEqual
turned GreaterThan = LessThan
turned GreaterEqual = LessEqual
turned LessThan = GreaterThan
turned LessEqual = GreaterEqual
turned TildeEqual = TildeEqual
turned In = Contains
turned NotIn = NotContains
turned Contains = In
turned NotContains = NotIn

-- the whole text is the operator, as in a comparison (PEP 508): `in` is `In`, and `not in` has one
-- or more characters of white space inside
abbrev pub IsSpelling : List ℕ → MarkerOperator → Type 0
IsSpelling text operator = IsOperator text [] operator
