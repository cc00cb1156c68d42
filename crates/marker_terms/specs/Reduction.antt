-- Redundant terms and clauses of a disjunction. The terms are distinguished by numbers: a term and
-- its negation have two numbers that differ in their last bit.
use Rattle.std.specs.Prelude.{◌==◌, ◌&&◌, ◌||◌, ◌++◌, ℕ, Bool, not, List, [], ◌∷◌, Option, Some, None, bit_xor, if◌then◌else◌}
use Rattle.std.specs.List.{list_all, list_any}
use Rattle.std.specs.Option.{option_to_list}

-- a term of the clause has the number
abbrev pub has_number : {X : Type 0} → (X → ℕ) → ℕ → List X → Bool
has_number number n clause = list_any (λ t. number t == n) clause

-- the negation of a term of the clause, or another term of the clause
abbrev pub is_covered : {X : Type 0} → (X → ℕ) → X → List X → X → Bool
is_covered number term clause own = (number own == bit_xor (number term) 1)
    || (not (number own == number term) && has_number number (number own) clause)

-- each term of the other clause is the negation of the term, or another term of its clause
abbrev pub stands_for : {X : Type 0} → (X → ℕ) → X → List X → List X → Bool
stands_for number term clause other = list_all (is_covered number term clause) other

-- a term that one of the others makes redundant
abbrev pub is_redundant : {X : Type 0} → (X → ℕ) → List (List X) → List X → X → Bool
is_redundant number others clause term = list_any (stands_for number term clause) others

-- a clause beside others, without its redundant terms: each term is judged by those that are kept
-- and those that are still to come
abbrev pub without_terms : {X : Type 0} → (X → ℕ) → List (List X) → List X → List X → List X
without_terms number others kept [] = kept
without_terms number others kept (t ∷ rest) = if is_redundant number others (kept ++ t ∷ rest) t
    then without_terms number others kept rest
    else without_terms number others (kept ++ t ∷ []) rest

-- each clause in turn as it is judged beside the others: those before it as they are then, and
-- those after it
abbrev pub judged : {X : Type 0} → (List (List X) → List X → Option (List X)) → List (List X)
    → List (List X) → List (List X)
judged judge done [] = done
judged judge done (clause ∷ rest) =
    judged judge (done ++ option_to_list (judge (done ++ rest) clause)) rest

-- a clause without its redundant terms
abbrev pub shortened : {X : Type 0} → (X → ℕ) → List (List X) → List X → Option (List X)
shortened number others clause = Some (without_terms number others [] clause)

-- a clause has all terms of another one
abbrev pub has_all : {X : Type 0} → (X → ℕ) → List X → List X → Bool
has_all number clause other = list_all (λ t. has_number number (number t) clause) other

-- a clause that has all terms of one of the others
abbrev pub is_spare : {X : Type 0} → (X → ℕ) → List (List X) → List X → Bool
is_spare number others clause = list_any (has_all number clause) others

-- a clause that is not spare
abbrev pub needed : {X : Type 0} → (X → ℕ) → List (List X) → List X → Option (List X)
needed number others clause = if is_spare number others clause then None else Some clause

-- the clauses first without redundant terms, and then without spare clauses
abbrev pub reduced : {X : Type 0} → (X → ℕ) → List (List X) → List (List X)
reduced number clauses = judged (needed number) [] (judged (shortened number) [] clauses)
