-- How clauses are printed: a disjunction of conjunctions, as a marker (PEP 508, which leaves open
-- which parentheses are printed). Texts are lists of bytes.
use Rattle.std.specs.Prelude.{ℕ, List, [], ◌∷◌, ◌++◌, codes}
use Rattle.std.specs.List.{flat_map}
use Rattle.marker_parts.specs.declared.expression.MarkerExpression.{MarkerExpression}
use Rattle.marker_parts.specs.Print.{expression_text}

-- a term after another one
abbrev pub next_term_text : MarkerExpression → List ℕ
next_term_text e = codes " and " ++ expression_text e

-- the terms of a clause
abbrev pub clause_text : List MarkerExpression → List ℕ
clause_text [] = []
clause_text (e ∷ terms) = expression_text e ++ flat_map next_term_text terms

-- a clause among others: a single term has no parentheses
abbrev pub part_text : List MarkerExpression → List ℕ
part_text (e ∷ []) = expression_text e
part_text terms = codes "(" ++ (clause_text terms ++ codes ")")

-- a clause after another one
abbrev pub next_clause_text : List MarkerExpression → List ℕ
next_clause_text terms = codes " or " ++ part_text terms

-- clauses: a single one has no parentheses
abbrev pub clauses_text : List (List MarkerExpression) → List ℕ
clauses_text [] = []
clauses_text (terms ∷ []) = clause_text terms
clauses_text (terms ∷ next ∷ clauses) =
    part_text terms ++ flat_map next_clause_text (next ∷ clauses)
