-- The values of a type of URLs for paths and URLs without a name.
use Rattle.std.specs.Prelude.{◌≡◌, ℕ, List, Option}
use Rattle.pep508_errors.specs.declared.surroundings.Surroundings.{Surroundings}
use Rattle.pep508_urls.specs.Meaning.{Meaning, HasMeaning, folder_of}

-- given as a text that denotes this, with relative paths from the folder, the value is one that the
-- text has
abbrev pub MakesNamed : {U : Type 0} → (List ℕ → Surroundings → U → Type 0)
    → (U → List ℕ → U → Type 0) → Option (List ℕ) → Meaning → U → Type 0
MakesNamed {U} names gives folder meaning url =
    (text : List ℕ) (surroundings : Surroundings) (given : U)
    → HasMeaning text surroundings meaning → folder_of surroundings ≡ folder
    → gives url text given → names text surroundings given

-- no such text has a value
abbrev pub NamesNone : {U : Type 0} → (List ℕ → Surroundings → U → Type 0)
    → Option (List ℕ) → Meaning → Type 0
NamesNone {U} names folder meaning =
    (text : List ℕ) (surroundings : Surroundings) (url : U)
    → HasMeaning text surroundings meaning → folder_of surroundings ≡ folder
    → ¬ names text surroundings url

-- each such text may be too large
abbrev pub EachMayOverflow : (List ℕ → Surroundings → Type 0) → Option (List ℕ) → Meaning → Type 0
EachMayOverflow may_overflow folder meaning =
    (text : List ℕ) (surroundings : Surroundings) → HasMeaning text surroundings meaning
    → folder_of surroundings ≡ folder → may_overflow text surroundings
