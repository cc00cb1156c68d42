-- Numbered terms, and clauses of them.
use Rattle.std.specs.Prelude.{◌≡◌, ℕ, Vec, List, Option, None, set, slice_get, false, Bool, Some, take, drop, ◌++◌}
use Rattle.std.specs.List.{Contains, filter_map}
use Rattle.std.specs.Option.{option_and_then, option_map}
use Rattle.marker_terms.specs.declared.numbered.NumberedTerm.{NumberedTerm}

abbrev pub number_of : NumberedTerm → ℕ
number_of t = t.number

-- the terms of a clause that is there
abbrev pub terms_of : {A : Type 0} → Option (Vec NumberedTerm A) → Option (List NumberedTerm)
terms_of clause = option_map (λ c. c.items) clause

-- the clauses that are there
abbrev pub left_of : {A : Type 0} → List (Option (Vec NumberedTerm A))
    → List (List NumberedTerm)
left_of clauses = filter_map terms_of clauses

-- the clause at a place, if one is there
abbrev pub clause_at : {A : Type 0} → List (Option (Vec NumberedTerm A)) → ℕ
    → Option (List NumberedTerm)
clause_at clauses place = option_and_then terms_of (slice_get clauses place)

-- the clauses at these places fail a test
abbrev pub FailAt : {A : Type 0} → (List NumberedTerm → Bool)
    → List (Option (Vec NumberedTerm A)) → List ℕ → Type 0
FailAt test clauses places = (j : ℕ) (c : List NumberedTerm) → Contains places j
    → clause_at clauses j ≡ Some c → test c ≡ false

-- the terms of a clause before the first place, and those from the second one on
abbrev pub terms_left : ℕ → ℕ → List NumberedTerm → List NumberedTerm
terms_left kept index clause = take kept clause ++ drop index clause

-- the clause at a place is judged beside the others
pub record IsJudged {A : Type 0}
    (judge : List (List NumberedTerm) → List NumberedTerm → Option (List NumberedTerm))
    (old new : List (Option (Vec NumberedTerm A))) (place : ℕ) : Type 0 where
  pub clause : Option (Vec NumberedTerm A)
  pub clauses : new ≡ set old place clause
  pub terms : terms_of clause
      ≡ option_and_then (judge (left_of (set old place None))) (clause_at old place)
