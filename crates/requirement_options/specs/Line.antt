-- A line of a requirements file, as pip reads it: a requirement, an editable requirement, another
-- file, a file of constraints, or settings. What pip ignores there is a fault.
use Rattle.std.specs.Prelude.{ℕ, Bool, true, false, not, ◌||◌, ◌&&◌, List, [], ◌∷◌, ◌++◌, Option, None, Some, map, unwrap_or, if◌then◌else◌}
use Rattle.requirement_lines.specs.Character.{Character}
use Rattle.requirement_lines.specs.Ends.{without_last}
use Rattle.requirement_lines.specs.Marks.{from_mark}
use Rattle.requirement_lines.specs.Reports.{requirement_of}
use Rattle.requirement_lines.specs.Words.{Parted, unclosed, parts, words_of}
use Rattle.requirement_lines.specs.declared.places.Place.{Place}
use Rattle.requirement_lines.specs.declared.places.Source.TheVariants.{File}
use Rattle.requirement_lines.specs.declared.sets.Mark.TheVariants.{Options}
use Rattle.requirement_options.specs.Reading.{Setting, OutcomeOf, invalid, found, outcome_of}
use Rattle.requirement_options.specs.declared.kind.OptionKind.{OptionKind}
use Rattle.requirement_options.specs.declared.kind.OptionKind.TheVariants as options
use Rattle.requirement_options.specs.declared.line_kind.LineKind.{LineKind}
use Rattle.requirement_options.specs.declared.line_kind.LineKind.TheVariants as lines
use Rattle.requirement_options.specs.declared.fault.OptionFault.{OptionFault}
use Rattle.requirement_options.specs.declared.fault.OptionFaultKind.TheVariants.{Unclosed, Ignored, LostText}
use Rattle.requirement_options.specs.declared.reading.Mode.TheVariants.{Ready}

-- ---- which options count

abbrev pub is_editable : OptionKind → Bool
is_editable options.Editable = true
is_editable kind = false

abbrev pub is_file : OptionKind → Bool
is_file options.Requirement = true
is_file kind = false

abbrev pub is_constraints : OptionKind → Bool
is_constraints options.Constraint = true
is_constraints kind = false

-- the option belongs to a requirement, and follows it
abbrev pub is_of_requirement : OptionKind → Bool
is_of_requirement options.GlobalOption = true
is_of_requirement options.Hash = true
is_of_requirement options.ConfigSettings = true
is_of_requirement kind = false

-- pip uses the option on this kind of line
abbrev pub counts_on : LineKind → OptionKind → Bool
counts_on lines.Requirement kind = is_of_requirement kind
counts_on lines.Editable kind = is_editable kind
counts_on lines.File kind = is_file kind
counts_on lines.Constraints kind = is_constraints kind
counts_on lines.Settings kind = not (is_of_requirement kind)

-- of several such options on a line, pip uses only the first
abbrev pub only_first_counts : OptionKind → Bool
only_first_counts options.FindLinks = true
only_first_counts options.Editable = true
only_first_counts options.Requirement = true
only_first_counts options.Constraint = true
only_first_counts kind = false

-- ---- what a line says

-- what a line says besides its options
pub data Said : Type 0 where
  requirement : List Character → Said
  editable : List Character → Said
  file : List Character → Said
  constraints : List Character → Said
  settings : Said

-- the argument of the first option that counts on such a line
abbrev pub first_argument : LineKind → List Setting → Option (List Character)
first_argument line [] = None
first_argument line (s ∷ ss) =
    if counts_on line s.kind then Some (unwrap_or s.argument []) else first_argument line ss

abbrev pub constraints_or_settings : Option (List Character) → Said
constraints_or_settings (Some name) = constraints name
constraints_or_settings None = settings

abbrev pub file_or : Option (List Character) → Said → Said
file_or (Some name) said = file name
file_or None said = said

abbrev pub editable_or : Option (List Character) → Said → Said
editable_or (Some text) said = editable text
editable_or None said = said

-- what a line says without a requirement, `-e` and `-r`
abbrev pub said_by_constraints : List Setting → Said
said_by_constraints options =
    constraints_or_settings (first_argument lines.Constraints options)

-- what a line says without a requirement and `-e`
abbrev pub said_by_files : List Setting → Said
said_by_files options =
    file_or (first_argument lines.File options) (said_by_constraints options)

-- a line says its requirement, or else what `-e` does, or else `-r`, or else `-c`
abbrev pub said_by : List Character → List Setting → Said
said_by (p ∷ ps) options = requirement (p ∷ ps)
said_by [] options =
    editable_or (first_argument lines.Editable options) (said_by_files options)

abbrev pub kind_of : Said → LineKind
kind_of (requirement text) = lines.Requirement
kind_of (editable text) = lines.Editable
kind_of (file name) = lines.File
kind_of (constraints name) = lines.Constraints
kind_of settings = lines.Settings

-- ---- what is wrong with it

-- pip ignores the option; `taken` says that an earlier one was used, and only one is
abbrev pub is_ignored : LineKind → Bool → OptionKind → Bool
is_ignored line taken kind = not (counts_on line kind) || taken && only_first_counts kind

-- the first of such options was used, including this option
abbrev pub is_taken : LineKind → Bool → OptionKind → Bool
is_taken line taken kind = taken || counts_on line kind && only_first_counts kind

-- a fault for each option that pip ignores
abbrev pub ignored : LineKind → Bool → List Setting → List OptionFault
ignored line taken [] = []
ignored line taken (s ∷ ss) =
    if is_ignored line taken s.kind
    then record { kind = Ignored; place = s.place } ∷ ignored line (is_taken line taken s.kind) ss
    else ignored line (is_taken line taken s.kind) ss

abbrev pub lost_at : Place → OptionFault
lost_at place = record { kind = LostText; place = place }

-- what a line says, its options, and what is wrong with them
pub record LineRead : Type 0 where
  pub said : Said
  pub options : List Setting
  pub faults : List OptionFault

-- the part before the options of a line, without the space between them
abbrev pub without_space : List Character → List Character → List Character
without_space front [] = front
without_space front (p ∷ ps) = without_last front

abbrev pub front_of : List Character → List Character
front_of line = without_space (requirement_of line) (from_mark Options true line)

abbrev pub read_by : List Character → OutcomeOf → LineRead
read_by front (invalid fault) =
    record { said = said_by front []; options = []; faults = fault ∷ [] }
read_by front (found options lost) = record {
  said = said_by front options;
  options = options;
  faults = ignored (kind_of (said_by front options)) false options ++ map lost_at lost;
}

-- what the words say, if they end
abbrev pub outcome_of_words : Parted → OutcomeOf
outcome_of_words (unclosed place) = invalid (record { kind = Unclosed; place = place })
outcome_of_words (parts rest words) = outcome_of Ready words

-- what the options say that are this text
abbrev pub outcome_of_text : List Character → OutcomeOf
outcome_of_text text = outcome_of_words (words_of (record { to_end = 0; source = File }) text)

-- the outcome of the options of a line
abbrev pub outcome_in : List Character → OutcomeOf
outcome_in line = outcome_of_text (from_mark Options true line)

-- the result of reading a line
abbrev pub line_read : List Character → LineRead
line_read line = read_by (front_of line) (outcome_in line)
