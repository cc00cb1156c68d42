-- What is wrong with the entries of a file.
use Rattle.std.specs.Prelude.{◌≡◌, ℕ, ◌+◌, ◌<◌, List, [], ◌∷◌, ◌++◌, slice_get, nat_lt, Option, None, Some, if◌then◌else◌}
use Rattle.pep508_names.specs.Name.{IsName, NormalizesTo}
use Rattle.project_files.specs.declared.key.Section.{Section}
use Rattle.project_files.specs.declared.key.Section.TheVariants.{Group, Extra}
use Rattle.project_files.specs.declared.entry.ProjectFaultKind.{ProjectFaultKind}
use Rattle.project_files.specs.declared.entry.ProjectFaultKind.TheVariants.{InvalidName, RepeatedName, NoSuchGroup, EndlessGroup}
use Rattle.project_files.specs.declared.judging.ProjectFault.{ProjectFault}
use Rattle.project_files.specs.Entries.{ContentOf, text, include, named, wrong, EntryOf}
use Rattle.project_files.specs.Groups.{name_of, IsNamed, Means, Ends}

-- names of groups are apart from those of extras
abbrev pub names_in : Section → Section
names_in Group = Group
names_in section = Extra

-- the fault of a group or extra, by its name and place: it is invalid, or an earlier one is the
-- same in normal form
pub data JudgesName (es : List EntryOf) (section : Section) (k : ℕ) (name : List ℕ)
    : Option ProjectFaultKind → Type 0 where
  invalid : ¬ IsName name → JudgesName es section k name (Some InvalidName)
  repeated : (n : List ℕ) (j : ℕ) → NormalizesTo name n → j < k → IsNamed es section j n
      → JudgesName es section k name (Some RepeatedName)
  fresh : (n : List ℕ) → NormalizesTo name n → ((j : ℕ) → j < k → ¬ IsNamed es section j n)
      → JudgesName es section k name None

-- the fault of an include: there is no such group, or including it does not end
pub data JudgesInclude (es : List EntryOf) (name : List ℕ) : Option ProjectFaultKind → Type 0 where
  missing : ((q : ℕ) → ¬ Means es name q) → JudgesInclude es name (Some NoSuchGroup)
  endless : (q : ℕ) → Means es name q → ¬ Ends es q → JudgesInclude es name (Some EndlessGroup)
  fine : (q : ℕ) → Means es name q → Ends es q → JudgesInclude es name None

-- the fault of an entry at a place, if it has one
abbrev pub JudgesContent : List EntryOf → ℕ → EntryOf → ContentOf → Option ProjectFaultKind → Type 0
JudgesContent es k e (text s) fault = fault ≡ None
JudgesContent es k e (wrong kind) fault = fault ≡ Some kind
JudgesContent es k e (include name) fault = JudgesInclude es name fault
JudgesContent es k e named fault = JudgesName es (names_in e.key.section) k (name_of e) fault

abbrev pub Judges : List EntryOf → ℕ → EntryOf → Option ProjectFaultKind → Type 0
Judges es k e fault = JudgesContent es k e e.content fault

-- the fault of a name at a place, of which this is the first
abbrev pub repeat_at : Option ℕ → ℕ → Option ProjectFaultKind
repeat_at None place = None
repeat_at (Some k) place = if nat_lt k place then Some RepeatedName else None

-- the fault at a place, as a list
abbrev pub fault_at : ℕ → Option ProjectFaultKind → List ProjectFault
fault_at k None = []
fault_at k (Some kind) = record { entry = k; kind = kind } ∷ []

-- the faults of the first entries, in their order: one for each entry that has one
pub data Judged (es : List EntryOf) : ℕ → List ProjectFault → Type 0 where
  none : Judged es 0 []
  more : (k : ℕ) (faults : List ProjectFault) (e : EntryOf) (fault : Option ProjectFaultKind)
      → Judged es k faults → slice_get es k ≡ Some e → Judges es k e fault
      → Judged es (k + 1) (faults ++ fault_at k fault)
