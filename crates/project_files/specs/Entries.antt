-- The entries of a `pyproject.toml`: each key that tells requirements, and what is there.
use Rattle.std.specs.Prelude.{ℕ, List, Option, None}
use Rattle.project_files.specs.declared.key.Section.{Section}
use Rattle.project_files.specs.declared.entry.ProjectFaultKind.{ProjectFaultKind}

-- a key with the name of a group or extra, and a place in its list
pub record KeyOf : Type 0 where
  pub section : Section
  pub name : Option (List ℕ)
  pub index : Option ℕ

-- a string, the name of a group that is included, a group or extra, or a fault
pub data ContentOf : Type 0 where
  text : List ℕ → ContentOf
  include : List ℕ → ContentOf
  named : ContentOf
  wrong : ProjectFaultKind → ContentOf

pub record EntryOf : Type 0 where
  pub key : KeyOf
  pub content : ContentOf

abbrev pub entry : Section → Option (List ℕ) → Option ℕ → ContentOf → EntryOf
entry section name index content = record {
  key = record { section = section; name = name; index = index };
  content = content;
}

-- an entry of a key without a name
abbrev pub entry_of : Section → ContentOf → EntryOf
entry_of section content = entry section None None content
