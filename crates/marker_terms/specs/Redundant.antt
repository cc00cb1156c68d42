-- Redundant terms and clauses among numbered clauses, of which some are no longer there.
use Rattle.std.specs.Prelude.{◌≡◌, ◌++◌, ℕ, Bool, true, false, Vec, List, [], Option, Some, slice_get}
use Rattle.std.specs.Option.{option_map_or}
use Rattle.marker_terms.specs.declared.numbered.NumberedTerm.{NumberedTerm}
use Rattle.marker_terms.specs.Numbered.{FailAt, IsJudged, clause_at, left_of, number_of, terms_left}
use Rattle.marker_terms.specs.Reduction.{is_redundant, needed, reduced, shortened, stands_for, without_terms}

-- whether a clause makes the term redundant, with the terms that are kept and the rest
abbrev pub stands_beside : NumberedTerm → List NumberedTerm → List NumberedTerm
    → List NumberedTerm → Bool
stands_beside term kept rest = stands_for number_of term (kept ++ rest)

-- over clauses at places
module _ {A : Type 0} (clauses : List (Option (Vec NumberedTerm A))) where
  -- whether there is a clause at the place that passes the test
  abbrev pub passes_there : ℕ → (List NumberedTerm → Bool) → Bool
  passes_there place test = option_map_or test (clause_at clauses place) false

  -- one of the clauses makes the term redundant
  abbrev pub IsRedundant : NumberedTerm → List NumberedTerm → List NumberedTerm → Type 0
  IsRedundant term kept rest = is_redundant number_of (left_of clauses) (kept ++ rest) term ≡ true

  -- no clause at these places does
  abbrev pub NoneStandsAt : List ℕ → NumberedTerm → List NumberedTerm → List NumberedTerm → Type 0
  NoneStandsAt places term kept rest =
      FailAt (stands_for number_of term (kept ++ rest)) clauses places

  -- the answer is whether the term at an index is redundant, of whose clause some terms are kept
  abbrev pub TellsRedundant : List NumberedTerm → ℕ → ℕ → Bool → Type 0
  TellsRedundant clause kept index answer = (t : NumberedTerm) → slice_get clause index ≡ Some t
      → answer ≡ is_redundant number_of (left_of clauses) (terms_left kept index clause) t

  -- a clause without the terms that these clauses make redundant
  abbrev pub without_redundant : List NumberedTerm → List NumberedTerm
  without_redundant clause = without_terms number_of (left_of clauses) [] clause

module _ {A : Type 0} (old new : List (Option (Vec NumberedTerm A))) where
  -- the clause at a place has lost its redundant terms
  abbrev pub IsShortened : ℕ → Type 0
  IsShortened place = IsJudged (shortened number_of) old new place

  -- the clause at a place is gone if it is spare
  abbrev pub IsKeptIfNeeded : ℕ → Type 0
  IsKeptIfNeeded place = IsJudged (needed number_of) old new place

  -- all clauses are reduced
  abbrev pub AreReduced : Type 0
  AreReduced = left_of new ≡ reduced number_of (left_of old)
