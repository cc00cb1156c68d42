-- The entries of a file, from the values of the program.
use Rattle.std.specs.Prelude.{◌≡◌, ℕ, List, [], ◌∷◌, ◌++◌, length, map, Option, option_map, String, string_bytes, Vec}
use Rattle.std.specs.Borrow.{Bor}
use Rattle.std.specs.BTreeMap.{BTreeMap}
use Rattle.std.specs.declared.alloc.Global.{Global}
use Rattle.toml.specs.Data.{Data, Members}
use Rattle.toml.specs.View.{array_view, table_view, view}
use Rattle.toml.specs.declared.value.Value.{Value}
use Rattle.project_files.specs.declared.key.ProjectKey.{ProjectKey}
use Rattle.project_files.specs.declared.key.Section.{Section}
use Rattle.project_files.specs.declared.entry.Content.{Content}
use Rattle.project_files.specs.declared.entry.Content.TheVariants as contents
use Rattle.project_files.specs.declared.entry.ProjectEntry.{ProjectEntry}
use Rattle.project_files.specs.declared.judging.ProjectFault.{ProjectFault}
use Rattle.project_files.specs.declared.file.ProjectFile.{ProjectFile}
use Rattle.project_files.specs.Entries.{KeyOf, ContentOf, text, include, named, wrong, EntryOf, entry}
use Rattle.project_files.specs.Faults.{Judged}
use Rattle.project_files.specs.Tables.{at_key, dynamic_faults, item_entries, list_entries}

-- a name, and a value, that there may be
abbrev pub name_in : Option (Bor (List ℕ)) → Option (List ℕ)
name_in name = option_map (λ s. s.now) name

abbrev pub value_in : Option (Bor Value) → Option Data
value_in value = option_map (λ v. view v.now) value

abbrev pub key_in : ProjectKey → KeyOf
key_in key = record {
  section = key.section;
  name = option_map string_bytes key.name;
  index = key.index;
}

abbrev pub content_in : Content → ContentOf
content_in (contents.Text s) = text (string_bytes s)
content_in (contents.Include name) = include (string_bytes name)
content_in contents.Name = named
content_in (contents.Wrong kind) = wrong kind

abbrev pub entry_in : ProjectEntry → EntryOf
entry_in e = record { key = key_in e.key; content = content_in e.content }

abbrev pub entries_in : List ProjectEntry → List EntryOf
entries_in es = map entry_in es

-- the entries that were found in a file
abbrev pub entries_of : ProjectFile → List EntryOf
entries_of file = entries_in file.entries.items

-- the faults of all entries
abbrev pub AreFaultsOf : List ProjectEntry → List ProjectFault → Type 0
AreFaultsOf es faults = Judged (entries_in es) (length es) faults

-- ---- entries that are added

-- the list has these entries after those that it had
abbrev pub Adds : List EntryOf → Vec ProjectEntry Global → Vec ProjectEntry Global → Type 0
Adds added old new = entries_in new.items ≡ entries_in old.items ++ added

-- one entry
abbrev pub AddsOne : Section → Option (Bor (List ℕ)) → Option ℕ → Content
    → Vec ProjectEntry Global → Vec ProjectEntry Global → Type 0
AddsOne section name index content =
    Adds (entry section (name_in name) index (content_in content) ∷ [])

-- those of the items of a list
abbrev pub AddsItems : Section → Option (Bor (List ℕ)) → Vec Value Global
    → Vec ProjectEntry Global → Vec ProjectEntry Global → Type 0
AddsItems section name items = Adds (item_entries section (name_in name) 0 (array_view items))

-- those of a value that must be a list
abbrev pub AddsList : Section → Option (Bor (List ℕ)) → Value
    → Vec ProjectEntry Global → Vec ProjectEntry Global → Type 0
AddsList section name value = Adds (list_entries section (name_in name) (view value))

-- those of what there may be at a key
abbrev pub AddsAt : (Data → List EntryOf) → Option (Bor Value)
    → Vec ProjectEntry Global → Vec ProjectEntry Global → Type 0
AddsAt entries value = Adds (at_key entries (value_in value))

-- those of a table
abbrev pub AddsOf : (Members → List EntryOf) → BTreeMap (String Global) Value
    → Vec ProjectEntry Global → Vec ProjectEntry Global → Type 0
AddsOf entries members = Adds (entries (table_view members))

-- the faults of the items of `project.dynamic`
abbrev pub AddsFaults : BTreeMap (String Global) Value → Vec Value Global
    → Vec ProjectEntry Global → Vec ProjectEntry Global → Type 0
AddsFaults project items = Adds (dynamic_faults (table_view project) 0 (array_view items))
