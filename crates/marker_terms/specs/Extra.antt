-- The extra that all clauses have in common.
use Rattle.std.specs.Prelude.{◌≡◌, ◌≢◌, List, [], ◌∷◌, Option, Some, None, Vec}
use Rattle.std.specs.List.{AllByRecursion}
use Rattle.marker_words.specs.declared.operator.ExtraOperator.TheVariants as operators
use Rattle.marker_parts.specs.declared.expression.MarkerExpression.{MarkerExpression}
use Rattle.marker_parts.specs.Expression.{Extra, Test, extra, test_of, text, version, version_in, extra_of}
use Rattle.marker_parts.specs.declared.extra.MarkerValueExtra.{MarkerValueExtra}
use Rattle.marker_terms.specs.Clauses.{clauses_of}

-- the extra that a comparison compares with by `==`
abbrev pub extra_of_test : Test → Option Extra
extra_of_test (version key specifier) = None
extra_of_test (version_in key versions negated) = None
extra_of_test (text key operator value) = None
extra_of_test (extra operators.Equal x) = Some x
extra_of_test (extra operators.NotEqual x) = None

abbrev pub asked_extra : MarkerExpression → Option Extra
asked_extra term = extra_of_test (test_of term)

-- that one, or else another
abbrev pub or_else : Option Extra → Option Extra → Option Extra
or_else (Some x) other = Some x
or_else None other = other

-- the extra of the first such comparison of a clause
abbrev pub first_extra : List MarkerExpression → Option Extra
first_extra [] = None
first_extra (term ∷ terms) = or_else (asked_extra term) (first_extra terms)

-- there is a clause, and this is the first extra of each
abbrev pub HasCommonExtra : List (List MarkerExpression) → Extra → Type 0
HasCommonExtra clauses x = (clauses ≢ [])
    × AllByRecursion (λ clause. first_extra clause ≡ Some x) clauses

-- the clauses have this extra in common
abbrev pub HaveInCommon : {A : Type 0} → List (Vec MarkerExpression A) → MarkerValueExtra → Type 0
HaveInCommon clauses x = HasCommonExtra (clauses_of clauses) (extra_of x)
