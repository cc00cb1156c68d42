-- Clauses by their last terms.
use Rattle.std.specs.Prelude.{◌≡◌, ◌⊎◌, ◌-◌, ℕ, Vec, true, List, [], Option, Some, length, map, slice_get, get_or}
use Rattle.std.specs.List.{Contains}
use Rattle.marker_terms.specs.declared.numbered.NumberedTerm.{NumberedTerm}
use Rattle.marker_terms.specs.Reduction.{has_number}
use Rattle.marker_terms.specs.Numbered.{clause_at, number_of, terms_of}
use Rattle.marker_terms.specs.declared.endings.Endings.{Endings}

-- the last term of a clause
abbrev pub last_of : {X : Type 0} → List X → Option X
last_of clause = slice_get clause (length clause - 1)

-- the places of clauses under the number of a term
abbrev pub places_of : Endings → ℕ → List ℕ
places_of e n = get_or (map (λ v. v.items) e.lists.items) n []

-- the place is always listed, or is listed for the last term of the clause
abbrev pub Lists : Endings → List NumberedTerm → ℕ → Type 0
Lists e clause place = Contains e.always.items place
    ⊎ ((t : NumberedTerm) × (last_of clause ≡ Some t) × Contains (places_of e t.number) place)

-- the place of each clause that is there is listed
abbrev pub AreEndingsOf : {A : Type 0} → Endings → List (Option (Vec NumberedTerm A)) → Type 0
AreEndingsOf e clauses = (j : ℕ) (c : List NumberedTerm) → clause_at clauses j ≡ Some c
    → Lists e c j

-- among the places are those under the terms of a clause
pub record AreNear (e : Endings) (clause : List NumberedTerm) (places : List ℕ) : Type 0 where
  pub last : (n j : ℕ) → has_number number_of n clause ≡ true → Contains (places_of e n) j
      → Contains places j

-- what was listed still is
abbrev pub KeepsListed : Endings → Endings → Type 0
KeepsListed old new = (c : List NumberedTerm) (j : ℕ) → Lists old c j → Lists new c j

-- the place is listed for the clause, if one is there
abbrev pub ListsIfThere : {A : Type 0} → Endings → Option (Vec NumberedTerm A) → ℕ → Type 0
ListsIfThere e clause place =
    (c : List NumberedTerm) → terms_of clause ≡ Some c → Lists e c place
