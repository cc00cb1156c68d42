-- Which requirements are listed: those whose markers are true in a target.
use Rattle.std.specs.Prelude.{◌≡◌, ◌⊎◌, List, [], ◌∷◌, ◌++◌, Option, None, Some, Vec}
use Rattle.std.specs.declared.alloc.Global.{Global}
use Rattle.requirement_lines.specs.Character.{Character}
use Rattle.requirement_lines.specs.Reports.{text_of}
use Rattle.requirement_options.specs.Line.{line_read}
use Rattle.requirement_findings.specs.declared.finding.CheckedLine.{CheckedLine}
use Rattle.requirement_findings.specs.declared.finding.CheckedText.{CheckedText}
use Rattle.requirement_findings.specs.declared.finding.Finding.{Finding}
use Rattle.requirement_findings.specs.declared.finding.Listed.{Listed}
use Rattle.requirement_findings.specs.declared.name.FindingName.TheVariants.{TooComplex, UnknownValue}
use Rattle.requirement_checks.specs.Lines.{requirement_in, IsChecked, IsCheckedText}
use Rattle.requirement_checks.specs.declared.reading.Form.{Form}
use Rattle.requirement_checks.specs.declared.reading.Form.TheVariants as forms
use Rattle.selection_commands.specs.declared.truth.Truth.{Truth}
use Rattle.selection_commands.specs.declared.truth.Truth.TheVariants.{Yes, No, Open}
use Rattle.selection_commands.specs.Markers.{HasTruth, requirement_of}
use Rattle.selection_commands.specs.declared.selector.Choice.{Choice}
use Rattle.selection_commands.specs.declared.selector.Choice.TheVariants as choices
use Rattle.selection_commands.specs.declared.selector.Selector.{Selector}
use Rattle.selection_commands.specs.declared.written.Stretch.{Stretch}

-- what becomes of a requirement, if `Has` says which truth its marker has
abbrev pub Chooses : (Truth → Type 0) → Choice → Type 0
Chooses Has choices.Listed = Has Yes
Chooses Has choices.LeftOut = Has No
Chooses Has (choices.Reported finding) =
    (finding.name ≡ TooComplex) ⊎ ((finding.name ≡ UnknownValue) × Has Open)

-- a list entry except for the text of the requirement
abbrev pub without_text : Listed → Listed
without_text entry = record entry { text = None }

-- A requirement that the checker lists is listed if its marker is true, left out if it is false,
-- and reported after the other findings if it is open or needs too much room.
pub data Selects (Has : Truth → Type 0) (own : Listed) (old : List Finding)
    : Option Listed → List Finding → Type 0 where
  listed : (entry : Listed) → Has Yes → without_text entry ≡ without_text own
      → Selects Has own old (Some entry) old
  left_out : Has No → Selects Has own old None old
  not_known : (finding : Finding) → finding.name ≡ UnknownValue → Has Open
      → Selects Has own old None (old ++ (finding ∷ []))
  too_complex : (finding : Finding) → finding.name ≡ TooComplex
      → Selects Has own old None (old ++ (finding ∷ []))

-- the marker of a requirement is so in the target of a selector
abbrev pub TruthOf : Selector → List Character × Form → Truth → Type 0
TruthOf s r = HasTruth s.reader.settings.folder.now r.1 (text_of r.0) s.target

-- nothing is listed without a requirement, or if the checker does not list it
abbrev pub SelectsIf : Selector → Option (List Character × Form) → Option Listed
    → List Finding → Option Listed → List Finding → Type 0
SelectsIf s None own old entry new = (entry ≡ None) × (new ≡ old)
SelectsIf s (Some r) None old entry new = (entry ≡ None) × (new ≡ old)
SelectsIf s (Some r) (Some own) old entry new = Selects (TruthOf s r) own old entry new

-- the same for a requirement as it is written
abbrev pub SelectsFrom : Selector → Option Stretch → Option Listed
    → Vec Finding Global → Vec Finding Global → Option Listed → Type 0
SelectsFrom s stretch own old new entry =
    SelectsIf s (requirement_of stretch) own old.items entry new.items

-- the target and the settings stay
pub record Stays (old new : Selector) : Type 0 where
  pub target : new.target ≡ old.target
  pub reads : new.reader.settings ≡ old.reader.settings
  pub checks : new.checker.settings ≡ old.checker.settings

-- The checker finds this in a line, and its findings stay in front. The requirement of the line, if
-- the checker lists it, is selected.
pub record SelectsLine (old : Selector) (line : List Character) (checked : CheckedLine)
    (new : Selector) : Type 0 where
  pub found : CheckedLine
  pub checks : IsChecked old.checker.settings.folder.now line found
  pub same_line : checked.line ≡ found.line
  pub selects : SelectsIf old (requirement_in (line_read line).said) found.listed
      found.findings.items checked.listed checked.findings.items
  pub stays : Stays old new

-- The same for a requirement that is no line of a requirements file.
pub record SelectsText (old : Selector) (text : List Character) (checked : CheckedText)
    (new : Selector) : Type 0 where
  pub found : CheckedText
  pub checks : IsCheckedText old.checker.settings.folder.now text found
  pub selects : SelectsIf old (Some (text, forms.Any)) found.listed
      found.findings.items checked.listed checked.findings.items
  pub stays : Stays old new
