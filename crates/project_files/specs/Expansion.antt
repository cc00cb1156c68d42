-- The expansion of a group (PEP 735): its list, with each include replaced by the expansion of the
-- group that it names. The strings are told by the places of their entries.
use Rattle.std.specs.Prelude.{◌≡◌, ℕ, ◌+◌, List, [], ◌∷◌, ◌++◌, slice_get, IsSomeAnd}
use Rattle.project_files.specs.declared.groups.Role.TheVariants.{Item}
use Rattle.project_files.specs.Entries.{text, include, EntryOf}
use Rattle.project_files.specs.Groups.{Plays, Means}

abbrev pub IsText : List EntryOf → ℕ → Type 0
IsText es k = IsSomeAnd (slice_get es k) (λ e. (s : List ℕ) × (e.content ≡ text s))

abbrev pub IsInclude : List EntryOf → ℕ → List ℕ → Type 0
IsInclude es k name = IsSomeAnd (slice_get es k) (λ e. e.content ≡ include name)

-- the items of a list from a place on, and the strings that they expand to
pub data Expands (es : List EntryOf) : ℕ → List ℕ → Type 0 where
  none : (k : ℕ) → ¬ Plays es Item k → Expands es k []
  string : (k : ℕ) (rest : List ℕ) → Plays es Item k → IsText es k → Expands es (k + 1) rest
      → Expands es k (k ∷ rest)
  included : (k q : ℕ) (name : List ℕ) (inner rest : List ℕ) → Plays es Item k → IsInclude es k name
      → Means es name q → Expands es (q + 1) inner → Expands es (k + 1) rest
      → Expands es k (inner ++ rest)

-- the expansion of the group that a name means
abbrev pub IsExpansion : List EntryOf → List ℕ → List ℕ → Type 0
IsExpansion es name strings = (q : ℕ) × Means es name q × Expands es (q + 1) strings
