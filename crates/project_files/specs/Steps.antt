-- The steps of an expansion.
use Rattle.std.specs.Prelude.{◌≡◌, ℕ, ◌+◌, ⊤, true, false, Bool, List, [], ◌∷◌, ◌++◌, Option, Some}
use Rattle.pep508_names.specs.Name.{NormalizesTo}
use Rattle.project_files.specs.declared.expansion.Step.{Step}
use Rattle.project_files.specs.declared.expansion.Step.TheVariants as steps
use Rattle.project_files.specs.declared.expansion.Walk.{Walk}
use Rattle.project_files.specs.declared.groups.Role.TheVariants.{Item}
use Rattle.project_files.specs.Entries.{text, include, EntryOf}
use Rattle.project_files.specs.Groups.{role_of, Plays, Means}
use Rattle.project_files.specs.Expansion.{IsText, IsInclude}

-- the list of the first group with this name begins at k
pub record IsListOf (found : List ℕ → Option ℕ) (name : List ℕ) (k : ℕ) : Type 0 where
  pub normal : List ℕ
  pub group : ℕ
  pub normalizes : NormalizesTo name normal
  pub finds : found normal ≡ Some group
  pub follows : k ≡ group + 1

-- what an entry is in a list: `found` finds the first group of a name in normal form
abbrev pub IsStep : (List ℕ → Option ℕ) → EntryOf → Step → Type 0
IsStep found e steps.End = role_of e ≡ Item → ⊥
IsStep found e steps.Text = (role_of e ≡ Item) × ((s : List ℕ) × (e.content ≡ text s))
IsStep found e (steps.Include inner) = (role_of e ≡ Item) × ((name : List ℕ)
    × (e.content ≡ include name)
    × IsListOf found name inner)
IsStep found e steps.Faulty = ⊤

-- the same of the entry at a place
abbrev pub IsStepAt : List EntryOf → ℕ → Step → Type 0
IsStepAt es k steps.End = ¬ Plays es Item k
IsStepAt es k steps.Text = Plays es Item k × IsText es k
IsStepAt es k (steps.Include inner) = Plays es Item k
    × ((name : List ℕ) × (q : ℕ) × IsInclude es k name × Means es name q × (inner ≡ q + 1))
IsStepAt es k steps.Faulty = ⊤

-- the strings after a step at a place, and the places to go on at, the innermost last
abbrev pub found_after : List ℕ → ℕ → Step → List ℕ
found_after found place steps.Text = found ++ place ∷ []
found_after found place step = found

abbrev pub places_after : List ℕ → ℕ → Step → List ℕ
places_after places next steps.Text = places ++ next ∷ []
places_after places next (steps.Include inner) = (places ++ next ∷ []) ++ inner ∷ []
places_after places next step = places

-- the entry has an expansion
abbrev pub is_expanded : Step → Bool
is_expanded steps.Faulty = false
is_expanded step = true

pub record Takes (old new : Walk) (place next : ℕ) (step : Step) : Type 0 where
  pub expands : is_expanded step ≡ true
  pub found : new.found.items ≡ found_after old.found.items place step
  pub places : new.places.items ≡ places_after old.places.items next step
