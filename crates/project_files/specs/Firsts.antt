-- A map from names in normal form to places, as a function.
use Rattle.pep508_names.specs.Name.{NormalizesTo}
use Rattle.std.specs.BTreeMap.{BTreeMap, get}
use Rattle.std.specs.Cmp.Lexicographic.{slice_cmp}
use Rattle.std.specs.Ordering.{nat_cmp}
use Rattle.std.specs.Prelude.{◌≡◌, ℕ, List, Option, None, Some, MatchOption, is_some, bytes_eq, if◌then◌else◌}
use Rattle.project_files.specs.declared.key.Section.{Section}
use Rattle.project_files.specs.Entries.{EntryOf}
use Rattle.project_files.specs.Groups.{IsNamed, IsFirst}

-- the place that the map has for a name in normal form
abbrev pub first_in : BTreeMap (List ℕ) ℕ → List ℕ → Option ℕ
first_in firsts n = get (slice_cmp nat_cmp) firsts n

-- the map finds the first group or extra of each name
abbrev pub KnowsFirsts : List EntryOf → Section → (List ℕ → Option ℕ) → Type 0
KnowsFirsts es section found = (n : List ℕ)
    → MatchOption (found n) ((k : ℕ) → ¬ IsNamed es section k n) (λ k. IsFirst es section k n)

-- the map, with a place for this name unless it has one
abbrev pub kept : List ℕ → ℕ → (List ℕ → Option ℕ) → List ℕ → Option ℕ
kept name place found n =
    if is_some (found name) then found n else if bytes_eq name n then Some place else found n

abbrev pub KeepsFirst : List ℕ → ℕ → BTreeMap (List ℕ) ℕ → BTreeMap (List ℕ) ℕ → Type 0
KeepsFirst name place old new =
    (n : List ℕ) → first_in new n ≡ kept name place (first_in old) n

-- what the map finds for a name in any spelling
abbrev pub Finds : (List ℕ → Option ℕ) → List ℕ → Option ℕ → Type 0
Finds found name place = MatchOption place
    ((n : List ℕ) → NormalizesTo name n → found n ≡ None)
    (λ k. (n : List ℕ) × NormalizesTo name n × (found n ≡ Some k))
