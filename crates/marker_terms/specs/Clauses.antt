-- What a list of lists of comparisons means: a disjunction of conjunctions.
use Rattle.std.specs.Prelude.{◌≡◌, Bool, List, Vec, map, not}
use Rattle.std.specs.List.{list_all, list_any}
use Rattle.marker_environment.specs.Valuation.{Valuation}
use Rattle.marker_parts.specs.declared.expression.MarkerExpression.{MarkerExpression}
use Rattle.marker_parts.specs.Expression.{test_of, holds}

-- the terms of the clauses
abbrev pub clauses_of : {A : Type 0} → List (Vec MarkerExpression A) → List (List MarkerExpression)
clauses_of clauses = map (λ c. c.items) clauses

-- whether an expression holds
abbrev pub term_holds : MarkerExpression → Valuation → Bool
term_holds term v = holds (test_of term) v

-- whether each term of a clause is true; an empty clause is true
abbrev pub clause_holds : List MarkerExpression → Valuation → Bool
clause_holds clause v = list_all (λ t. term_holds t v) clause

-- whether one of the clauses is true; without clauses none is
abbrev pub clauses_hold : List (List MarkerExpression) → Valuation → Bool
clauses_hold clauses v = list_any (λ c. clause_holds c v) clauses

-- the clauses are true exactly where others are
abbrev pub MeanTheSame : List (List MarkerExpression) → List (List MarkerExpression) → Type 0
MeanTheSame clauses others = (v : Valuation) → clauses_hold clauses v ≡ clauses_hold others v

-- two comparisons are true together
abbrev pub HoldAlike : MarkerExpression → MarkerExpression → Type 0
HoldAlike term other = (v : Valuation) → term_holds term v ≡ term_holds other v

-- one comparison is true exactly where the other is false
abbrev pub AreNegations : MarkerExpression → MarkerExpression → Type 0
AreNegations term other = (v : Valuation) → term_holds term v ≡ not (term_holds other v)

-- what is left of clauses is true exactly where they are
abbrev pub MeansTheSameAs : {A B C D : Type 0} → Vec (Vec MarkerExpression A) B
    → Vec (Vec MarkerExpression C) D → Type 0
MeansTheSameAs clauses left = MeanTheSame (clauses_of left.items) (clauses_of clauses.items)
