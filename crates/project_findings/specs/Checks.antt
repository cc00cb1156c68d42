-- How a project is checked: entry by entry and in their order, by a checker who says what a
-- requirement is checked as, and what is found in version specifiers.
use Rattle.std.specs.Prelude.{◌≡◌, ℕ, List, [], ◌∷◌}
use Rattle.requirement_lines.specs.Character.{Character, characters}
use Rattle.requirement_findings.specs.declared.finding.CheckedText.{CheckedText}
use Rattle.requirement_findings.specs.declared.finding.Finding.{Finding}
use Rattle.project_files.specs.declared.key.Section.{Section}
use Rattle.project_files.specs.declared.key.Section.TheVariants.{RequiresPython}
use Rattle.project_files.specs.Entries.{ContentOf, text, include, named, wrong, EntryOf}
use Rattle.project_files.specs.Found.{entries_in, AreFaultsOf}
use Rattle.project_files.specs.Reading.{HasEntries}
use Rattle.project_findings.specs.Places.{HoldEach}
use Rattle.project_findings.specs.declared.check.CheckedProject.{CheckedProject}

module _ {State : Type 0} (Text : State → List Character → CheckedText → State → Type 0)
    (Finds : List Character → List Finding → Type 0) where
  -- in the state `old` the string is checked so, as a file by itself, and the state is `new` then
  abbrev pub ChecksString : Section → List ℕ → State → CheckedText → State → Type 0
  ChecksString RequiresPython s old checked new =
      (new ≡ old) × Finds (characters s) checked.findings.items
  ChecksString section s old checked new = Text old (characters s) checked new

  -- the same of what an entry has: only strings are checked
  abbrev pub ChecksContent : Section → ContentOf → State → CheckedText → State → Type 0
  ChecksContent section (text s) old checked new = ChecksString section s old checked new
  ChecksContent section content old checked new =
      (new ≡ old) × (checked.findings.items ≡ [])

  abbrev pub ChecksEntry : EntryOf → State → CheckedText → State → Type 0
  ChecksEntry e = ChecksContent e.key.section e.content

  -- from the state `old` the entries are checked so, none left out and none invented, and the state
  -- is `new` then
  pub data ChecksEntries : State → List EntryOf → List CheckedText → State → Type 0 where
    none : {state : State} → ChecksEntries state [] [] state
    more : {old middle new : State} {e : EntryOf} {es : List EntryOf} {first : CheckedText}
        {others : List CheckedText}
        → ChecksEntry e old first middle → ChecksEntries middle es others new
        → ChecksEntries old (e ∷ es) (first ∷ others) new

  -- the entries and faults are those of the file; each entry is checked, and has its place
  pub record ChecksProject (file : List ℕ) (old : State) (project : CheckedProject) (new : State)
      : Type 0 where
    pub entries : HasEntries file (entries_in project.file.entries.items)
    pub faults : AreFaultsOf project.file.entries.items project.file.faults.items
    pub each : ChecksEntries old (entries_in project.file.entries.items)
        project.checked.items new
    pub places : HoldEach file (entries_in project.file.entries.items) project.places.items
