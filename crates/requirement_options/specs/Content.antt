-- The content of a line, from the values of the program.
use Rattle.std.specs.Prelude.{◌≡◌, List}
use Rattle.requirement_lines.specs.Pieces.{line_of}
use Rattle.requirement_lines.specs.declared.pieces.Piece.{Piece}
use Rattle.requirement_options.specs.Line.{Said, requirement, editable, file, constraints, settings, LineRead, read_by}
use Rattle.requirement_options.specs.Found.{outcome_in, settings_in}
use Rattle.requirement_options.specs.declared.line.Content.{Content}
use Rattle.requirement_options.specs.declared.line.Content.TheVariants as contents
use Rattle.requirement_options.specs.declared.line.FileLine.{FileLine}
use Rattle.requirement_options.specs.declared.reading.Outcome.{Outcome}

abbrev pub said_in : Content → Said
said_in (contents.Requirement text) = requirement (line_of text.items)
said_in (contents.Editable text) = editable (line_of text.items)
said_in (contents.File name) = file (line_of name.items)
said_in (contents.Constraints name) = constraints (line_of name.items)
said_in contents.Settings = settings

abbrev pub read_in : FileLine → LineRead
read_in line = record {
  said = said_in line.content;
  options = settings_in line.options.items;
  faults = line.faults.items;
}

abbrev pub Says : Said → Content → Type 0
Says said content = said_in content ≡ said

abbrev pub IsReadAs : LineRead → FileLine → Type 0
IsReadAs read line = read_in line ≡ read

-- the result of reading a line with this part before its options, which have this outcome
abbrev pub read_with : List Piece → Outcome → LineRead
read_with front outcome = read_by (line_of front) (outcome_in outcome)
