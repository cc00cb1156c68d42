-- Where the strings of entries are in a file, in bytes from its first.
use Rattle.std.specs.Prelude.{◌≡◌, ℕ, ◌-◌, ◌≤◌, ⊤, List, [], ◌∷◌, length, take, drop, Option, None, Some, IsSomeAnd}
use Rattle.toml_parser.specs.Strings.{quoted}
use Rattle.project_files.specs.Entries.{ContentOf, text, include, named, wrong, EntryOf}
use Rattle.project_findings.specs.declared.parts.Part.{Part}
use Rattle.project_findings.specs.declared.places.EntryPlace.{EntryPlace}
use Rattle.project_findings.specs.declared.places.EntryPlace.TheVariants.{Written, Quoted, Near, Unknown}

-- the string of an entry, or the name of a group or extra
abbrev pub string_in : Option (List ℕ) → ContentOf → Option (List ℕ)
string_in name (text s) = Some s
string_in name (include group) = Some group
string_in name named = name
string_in name (wrong kind) = None

abbrev pub string_of : EntryOf → Option (List ℕ)
string_of e = string_in e.key.name e.content

-- the string is in the file from this byte on, as it is
abbrev pub IsWritten : List ℕ → List ℕ → ℕ → Type 0
IsWritten file s start = take (length s) (drop start file) ≡ s

-- the TOML string at this byte has this value, and what follows it begins at `end`
pub record IsQuoted (file s : List ℕ) (start end : ℕ) : Type 0 where
  pub rest : List ℕ
  pub reads : quoted (drop start file) ≡ Some (s, rest)
  pub ends : end ≡ length file - length rest

-- the part is one of the file
abbrev pub IsPart : List ℕ → Part → Type 0
IsPart file part = (part.start ≤ part.end) × (part.end ≤ length file)

-- a place holds the string: there the file has it, or a TOML string with its value
abbrev pub Holds : List ℕ → Option (List ℕ) → EntryPlace → Type 0
Holds file string (Written start) = IsSomeAnd string (λ s. IsWritten file s start)
Holds file string (Quoted part) = IsSomeAnd string (λ s. IsQuoted file s part.start part.end)
Holds file string (Near part) = IsPart file part
Holds file string Unknown = ⊤

-- each entry has a place, and these are in the order of the entries
pub data HoldEach (file : List ℕ) : List EntryOf → List EntryPlace → Type 0 where
  none : HoldEach file [] []
  more : (e : EntryOf) (place : EntryPlace) (es : List EntryOf) (places : List EntryPlace)
      → Holds file (string_of e) place → HoldEach file es places
      → HoldEach file (e ∷ es) (place ∷ places)
