-- How a text becomes the entries of a `pyproject.toml`.
use Rattle.std.specs.Prelude.{◌≡◌, ℕ, ⊤, List, None, Some}
use Rattle.refusal.specs.declared.Refusal.{Refusal}
use Rattle.refusal.specs.declared.Refusal.TheVariants.{OutOfMemory, SegmentAtEnd, Fault}
use Rattle.toml.specs.Data.{Members}
use Rattle.toml.specs.Errors.{IsWithin}
use Rattle.toml.specs.Parse.{parse_document}
use Rattle.toml.specs.declared.de.error.Error.{Error}
use Rattle.project_files.specs.Entries.{EntryOf}
use Rattle.project_files.specs.Tables.{file_entries}

-- the text is TOML, whose table has these entries
abbrev pub HasEntries : List ℕ → List EntryOf → Type 0
HasEntries t es = (table : Members) × (parse_document t ≡ Some table) × (es ≡ file_entries table)

-- memory ran out, or the text is no TOML; the fault is at a place in it
abbrev pub IsTomlRefusal : List ℕ → Refusal Error → Type 0
IsTomlRefusal t OutOfMemory = ⊤
IsTomlRefusal t SegmentAtEnd = ⊥
IsTomlRefusal t (Fault e) = (parse_document t ≡ None) × IsWithin t e
