-- The entries that a TOML table has as a `pyproject.toml`, in the order of its keys (PEP 518, PEP
-- 621, PEP 735).
use Rattle.std.specs.Prelude.{ℕ, ◌+◌, ◌==◌, suc, List, [], ◌∷◌, ◌++◌, Option, None, Some, option_and_then, codes, if◌then◌else◌, is_some}
use Rattle.toml.specs.Data.{Data, string, array, table, Items, no_items, item, Members, no_members, member, get_member, as_str}
use Rattle.project_files.specs.declared.key.Section.{Section}
use Rattle.project_files.specs.declared.key.Section.TheVariants.{BuildSystem, BuildRequires, Groups, Group, Project, Dependencies, Dynamic, Extras, Extra, RequiresPython}
use Rattle.project_files.specs.declared.entry.ProjectFaultKind.{ProjectFaultKind}
use Rattle.project_files.specs.declared.entry.ProjectFaultKind.TheVariants.{NotATable, NotAList, NotAString, NotAGroupItem, NoRequires, NotDynamic}
use Rattle.project_files.specs.Entries.{ContentOf, text, include, named, wrong, EntryOf, entry, entry_of}

-- how many keys
abbrev pub key_count : Members → ℕ
key_count no_members = 0
key_count (member k d ms) = suc (key_count ms)

-- what is at a key, unless it is missing
abbrev pub at_key : (Data → List EntryOf) → Option Data → List EntryOf
at_key entries None = []
at_key entries (Some d) = entries d

-- ---- lists

-- a requirement, or specifiers
abbrev pub text_of : Data → ContentOf
text_of (string s) = text s
text_of d = wrong NotAString

-- the group that a table with the one key `include-group` names
abbrev pub included : Members → Option (List ℕ)
included ms =
    if key_count ms == 1 then option_and_then as_str (get_member (codes "include-group") ms) else None

abbrev pub include_of : Option (List ℕ) → ContentOf
include_of None = wrong NotAGroupItem
include_of (Some name) = include name

-- what is in the list of a group
abbrev pub group_item_of : Data → ContentOf
group_item_of (string s) = text s
group_item_of (table ms) = include_of (included ms)
group_item_of d = wrong NotAGroupItem

-- what is in the list of a section
abbrev pub item_of : Section → Data → ContentOf
item_of Group d = group_item_of d
item_of section d = text_of d

-- items of a list from a place on
abbrev pub item_entries : Section → Option (List ℕ) → ℕ → Items → List EntryOf
item_entries section name index no_items = []
item_entries section name index (item d ds) =
    entry section name (Some index) (item_of section d) ∷ item_entries section name (index + 1) ds

abbrev pub list_entries : Section → Option (List ℕ) → Data → List EntryOf
list_entries section name (array ds) = item_entries section name 0 ds
list_entries section name d = entry section name None (wrong NotAList) ∷ []

-- ---- groups and extras

-- each has a name, before its list
abbrev pub member_entries : Section → Members → List EntryOf
member_entries section no_members = []
member_entries section (member k d ms) =
    entry section (Some k) None named
    ∷ (list_entries section (Some k) d ++ member_entries section ms)

abbrev pub extra_entries : Data → List EntryOf
extra_entries (table ms) = member_entries Extra ms
extra_entries d = entry_of Extras (wrong NotATable) ∷ []

abbrev pub group_entries : Data → List EntryOf
group_entries (table ms) = member_entries Group ms
group_entries d = entry_of Groups (wrong NotATable) ∷ []

-- ---- the build

abbrev pub requires_entries : Option Data → List EntryOf
requires_entries None = entry_of BuildSystem (wrong NoRequires) ∷ []
requires_entries (Some d) = list_entries BuildRequires None d

-- the entries of the keys of `build-system`
abbrev pub build_keys : Members → List EntryOf
build_keys ms = requires_entries (get_member (codes "requires") ms)

abbrev pub build_entries : Data → List EntryOf
build_entries (table ms) = build_keys ms
build_entries d = entry_of BuildSystem (wrong NotATable) ∷ []

-- ---- the project

-- what is wrong with an item of `project.dynamic`: it is a key of the project, or no string
abbrev pub dynamic_fault : Members → Data → Option ProjectFaultKind
dynamic_fault project (string s) = if is_some (get_member s project) then Some NotDynamic else None
dynamic_fault project d = Some NotAString

abbrev pub dynamic_entry : ℕ → Option ProjectFaultKind → List EntryOf
dynamic_entry index None = []
dynamic_entry index (Some kind) = entry Dynamic None (Some index) (wrong kind) ∷ []

abbrev pub dynamic_faults : Members → ℕ → Items → List EntryOf
dynamic_faults project index no_items = []
dynamic_faults project index (item d ds) =
    dynamic_entry index (dynamic_fault project d) ++ dynamic_faults project (index + 1) ds

abbrev pub dynamic_entries : Members → Data → List EntryOf
dynamic_entries project (array ds) = dynamic_faults project 0 ds
dynamic_entries project d = entry_of Dynamic (wrong NotAList) ∷ []

-- the entries of `project.dependencies`
abbrev pub dependency_entries : Data → List EntryOf
dependency_entries = list_entries Dependencies None

abbrev pub python_entries : Data → List EntryOf
python_entries d = entry_of RequiresPython (text_of d) ∷ []

abbrev pub project_keys : Members → List EntryOf
project_keys ms =
    at_key dependency_entries (get_member (codes "dependencies") ms)
    ++ (at_key (dynamic_entries ms) (get_member (codes "dynamic") ms)
    ++ (at_key extra_entries (get_member (codes "optional-dependencies") ms)
    ++ at_key python_entries (get_member (codes "requires-python") ms)))

abbrev pub project_entries : Data → List EntryOf
project_entries (table ms) = project_keys ms
project_entries d = entry_of Project (wrong NotATable) ∷ []

-- ---- the file

abbrev pub file_entries : Members → List EntryOf
file_entries file =
    at_key build_entries (get_member (codes "build-system") file)
    ++ (at_key group_entries (get_member (codes "dependency-groups") file)
    ++ at_key project_entries (get_member (codes "project") file))
