-- What is found in a line of a requirements file, and in which order: in its requirement, then in
-- its options, and then hints.
use Rattle.std.specs.Prelude.{◌≡◌, ℕ, List, [], ◌++◌, All, Option, None, Some, option_copied, Vec}
use Rattle.std.specs.Borrow.{Bor}
use Rattle.std.specs.declared.alloc.Global.{Global}
use Rattle.marker_graph.specs.Contents.{Contents}
use Rattle.pep508_errors.specs.declared.surroundings.Surroundings.{Surroundings}
use Rattle.pep508_urls.specs.Fault.{tells_size, TextMayOverflow}
use Rattle.pep508_urls.specs.Meaning.{IsVerbatim}
use Rattle.pep508_urls.specs.Verbatim.{Verbatim}
use Rattle.pep508_urls.specs.declared.error.VerbatimUrlError.{VerbatimUrlError}
use Rattle.requirement_findings.specs.Names.{severity_of}
use Rattle.requirement_findings.specs.declared.finding.CheckedLine.{CheckedLine}
use Rattle.requirement_findings.specs.declared.finding.CheckedText.{CheckedText}
use Rattle.requirement_findings.specs.declared.finding.Finding.{Finding}
use Rattle.requirement_findings.specs.declared.name.FindingName.{FindingName}
use Rattle.requirement_findings.specs.declared.name.Severity.TheVariants.{Hint}
use Rattle.requirement_lines.specs.Character.{Character}
use Rattle.requirement_lines.specs.Pieces.{line_of}
use Rattle.requirement_lines.specs.Reports.{text_of}
use Rattle.requirement_lines.specs.declared.pieces.Piece.{Piece}
use Rattle.requirement_options.specs.Content.{said_in, IsReadAs}
use Rattle.requirement_options.specs.Line.{Said, requirement, editable, file, constraints, settings, line_read}
use Rattle.requirement_options.specs.declared.fault.OptionFault.{OptionFault}
use Rattle.requirement_options.specs.declared.line.FileLine.{FileLine}
use Rattle.requirement_checks.specs.Findings.{fault_names, names_of, names_told, AddsNames}
use Rattle.requirement_checks.specs.Reading.{ReadsWithin}
use Rattle.requirement_checks.specs.declared.checker.Checker.{Checker}
use Rattle.requirement_checks.specs.declared.checker.Job.{Job}
use Rattle.requirement_checks.specs.declared.reading.Form.{Form}
use Rattle.requirement_checks.specs.declared.reading.Form.TheVariants as forms
use Rattle.requirement_checks.specs.declared.reading.Reading.{Reading}

-- no variable has a value, and paths start from the folder
pub record StartsFrom (folder : List ℕ) (surroundings : Surroundings) : Type 0 where
  pub no_variables : surroundings.vars.now.entries ≡ []
  pub root : surroundings.project_root.now ≡ folder
  pub start : option_copied surroundings.working_dir ≡ Some folder

-- the library's readers make something of the text that has these names
pub record IsJudgedIn (surroundings : Surroundings) (form : Form) (text : List ℕ)
    (names : List FindingName) : Type 0 where
  pub contents : Contents
  pub reading : Option (Reading Verbatim VerbatimUrlError)
  pub read : ReadsWithin IsVerbatim tells_size TextMayOverflow (λ url. url.given)
      surroundings form contents text reading
  pub told : names ≡ names_told reading

-- the same where no variable has a value, and paths start from the folder
pub record IsJudged (folder : List ℕ) (form : Form) (text : List ℕ)
    (names : List FindingName) : Type 0 where
  pub surroundings : Surroundings
  pub starts : StartsFrom folder surroundings
  pub judged : IsJudgedIn surroundings form text names

-- the requirement that a line says, and its form
abbrev pub requirement_in : Said → Option (List Character × Form)
requirement_in (requirement text) = Some (text, forms.Any)
requirement_in (editable text) = Some (text, forms.Unnamed)
requirement_in (file name) = None
requirement_in (constraints name) = None
requirement_in settings = None

-- the readers make something of the requirement, if there is one, that has these names
abbrev pub IsJudgedIf : List ℕ → Option (List Character × Form) → List FindingName → Type 0
IsJudgedIf folder None names = names ≡ []
IsJudgedIf folder (Some found) names = IsJudged folder found.1 (text_of found.0) names

abbrev pub IsJudgedOf : List ℕ → Said → List FindingName → Type 0
IsJudgedOf folder said = IsJudgedIf folder (requirement_in said)

abbrev pub IsHint : FindingName → Type 0
IsHint name = severity_of name ≡ Hint

-- findings are added: first of the requirement, then of the options, then hints
pub record Adds (Own : List FindingName → Type 0) (faults : List OptionFault)
    (old new : List Finding) : Type 0 where
  pub own : List FindingName
  pub hints : List FindingName
  pub judged : Own own
  pub hinted : All IsHint hints
  pub added : AddsNames (own ++ (fault_names faults ++ hints)) old new

-- only hints are added
pub record AddsHints (old new : List Finding) : Type 0 where
  pub hints : List FindingName
  pub hinted : All IsHint hints
  pub added : AddsNames hints old new

-- the faults of the options of a line are added, and then hints
abbrev pub AddsOthers : Job → Vec Finding Global → Vec Finding Global → Type 0
AddsOthers job old new = Adds (λ own. own ≡ []) job.line.now.faults.items old.items new.items

-- the findings of the requirement of a line are added, in these surroundings
abbrev pub AddsIn : Surroundings → Job → Vec Finding Global → Vec Finding Global → Type 0
AddsIn surroundings job old new = Adds (IsJudgedIn surroundings job.form job.text.now)
    job.line.now.faults.items old.items new.items

-- the same, where no variable has a value, and paths start from the checker's folder
abbrev pub AddsFrom : Checker → Job → Vec Finding Global → Vec Finding Global → Type 0
AddsFrom checker job old new =
    Adds (IsJudged checker.settings.folder.now job.form job.text.now)
    job.line.now.faults.items old.items new.items

-- the findings of a line are added
abbrev pub AddsLine : Checker → FileLine → Vec Finding Global → Vec Finding Global → Type 0
AddsLine checker line old new =
    Adds (IsJudgedOf checker.settings.folder.now (said_in line.content))
    line.faults.items old.items new.items

-- the requirement in pieces
abbrev pub requirement_of : Option (Bor (List Piece) × Form) → Option (List Character × Form)
requirement_of None = None
requirement_of (Some found) = Some (line_of found.0.now, found.1)

-- the line is read so, and this is found in it
pub record IsChecked (folder : List ℕ) (line : List Character) (checked : CheckedLine)
    : Type 0 where
  pub read : IsReadAs (line_read line) checked.line
  pub found : Adds (IsJudgedOf folder (line_read line).said) (line_read line).faults []
      checked.findings.items

-- this is found in a requirement that is no line of a requirements file
pub record IsCheckedText (folder : List ℕ) (text : List Character) (checked : CheckedText)
    : Type 0 where
  pub found : Adds (IsJudged folder forms.Named (text_of text)) [] [] checked.findings.items
