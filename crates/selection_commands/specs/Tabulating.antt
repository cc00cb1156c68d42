-- The rows of a table: what the markers of requirements are in targets.
use Rattle.std.specs.Prelude.{◌≡◌, List, [], ◌∷◌, ◌++◌, Option, None, Some, IfSome, Vec}
use Rattle.std.specs.declared.alloc.Global.{Global}
use Rattle.requirement_lines.specs.Character.{Character}
use Rattle.requirement_lines.specs.Reports.{text_of}
use Rattle.requirement_options.specs.Line.{line_read}
use Rattle.requirement_findings.specs.declared.finding.CheckedLine.{CheckedLine}
use Rattle.requirement_findings.specs.declared.finding.CheckedText.{CheckedText}
use Rattle.requirement_findings.specs.declared.finding.Finding.{Finding}
use Rattle.requirement_findings.specs.declared.finding.Listed.{Listed}
use Rattle.requirement_findings.specs.declared.name.FindingName.TheVariants.{TooComplex}
use Rattle.requirement_checks.specs.Lines.{requirement_in, IsChecked, IsCheckedText}
use Rattle.requirement_checks.specs.declared.reading.Form.{Form}
use Rattle.requirement_checks.specs.declared.reading.Form.TheVariants as forms
use Rattle.selection_commands.specs.declared.truth.Truth.{Truth}
use Rattle.selection_commands.specs.Markers.{HasTruths, requirement_at, requirement_of}
use Rattle.selection_commands.specs.declared.tabulator.Row.{Row}
use Rattle.selection_commands.specs.declared.tabulator.Tabulator.{Tabulator}
use Rattle.selection_commands.specs.declared.written.Stretch.{Stretch}

-- the marker of a requirement is so in the targets of a tabulator
abbrev pub TruthsOf : Tabulator → List Character × Form → List Truth → Type 0
TruthsOf t r = HasTruths t.reader.settings.folder.now r.1 (text_of r.0) t.targets.items

-- The row of a requirement: the truths of its marker, `Have` says which they are, and the name and
-- the marker of its list entry.
pub record IsRow (Have : List Truth → Type 0) (own : Listed) (row : Row) : Type 0 where
  pub truths : Have row.truths.items
  pub name : row.name ≡ own.name
  pub marker : row.marker ≡ own.marker

-- A row is added after the others, `Is` says which one, or the finding that it needs too much
-- room after the other findings.
pub data Tabulates (Is : Row → Type 0) (rows : List Row) (old : List Finding)
    : List Row → List Finding → Type 0 where
  tabulated : (row : Row) → Is row → Tabulates Is rows old (rows ++ (row ∷ [])) old
  too_complex : (finding : Finding) → finding.name ≡ TooComplex
      → Tabulates Is rows old rows (old ++ (finding ∷ []))

-- nothing is added without a requirement, or if the checker does not list it
abbrev pub TabulatesIf : Tabulator → Option (List Character × Form) → Option Listed
    → List Finding → List Row → List Finding → Type 0
TabulatesIf t None own old rows new = (rows ≡ t.rows.items) × (new ≡ old)
TabulatesIf t (Some r) None old rows new = (rows ≡ t.rows.items) × (new ≡ old)
TabulatesIf t (Some r) (Some own) old rows new =
    Tabulates (IsRow (TruthsOf t r) own) t.rows.items old rows new

-- the same for a requirement as it is written
abbrev pub TabulatesFrom : Tabulator → Option Stretch → Option Listed → Vec Finding Global
    → Tabulator → Vec Finding Global → Type 0
TabulatesFrom t stretch own old after new =
    TabulatesIf t (requirement_of stretch) own old.items after.rows.items new.items

-- the truths of its marker, if they are found
abbrev pub FindsTruths : Tabulator → Stretch → Option (Vec Truth Global) → Type 0
FindsTruths t stretch found =
    IfSome found (λ truths. TruthsOf t (requirement_at stretch) truths.items)

-- the targets and the settings stay
pub record Stays (old new : Tabulator) : Type 0 where
  pub targets : new.targets ≡ old.targets
  pub reads : new.reader.settings ≡ old.reader.settings
  pub checks : new.checker.settings ≡ old.checker.settings

-- The checker finds this in a line, and its findings stay in front. The requirement of the line, if
-- the checker lists it, is tabulated. Nothing is listed.
pub record TabulatesLine (old : Tabulator) (line : List Character) (checked : CheckedLine)
    (new : Tabulator) : Type 0 where
  pub found : CheckedLine
  pub checks : IsChecked old.checker.settings.folder.now line found
  pub same_line : checked.line ≡ found.line
  pub no_list : checked.listed ≡ None
  pub tabulates : TabulatesIf old (requirement_in (line_read line).said) found.listed
      found.findings.items new.rows.items checked.findings.items
  pub stays : Stays old new

-- The same for a requirement that is no line of a requirements file.
pub record TabulatesText (old : Tabulator) (text : List Character) (checked : CheckedText)
    (new : Tabulator) : Type 0 where
  pub found : CheckedText
  pub checks : IsCheckedText old.checker.settings.folder.now text found
  pub no_list : checked.listed ≡ None
  pub tabulates : TabulatesIf old (Some (text, forms.Any)) found.listed
      found.findings.items new.rows.items checked.findings.items
  pub stays : Stays old new
