-- The line and the column of a place, as people see them: both are counted from 1, and columns by
-- code points. A line ends at LF, CR LF or CR.
use Rattle.std.specs.Prelude.{◌≡◌, ◌≤◌, ℕ, ◌+◌, Bool, not, ◌||◌, ◌&&◌, ◌==◌, nat_lt, List, [], ◌∷◌, length, if◌then◌else◌}
use Rattle.pep508_text.specs.Suffix.{IsSuffix}
use Rattle.requirement_lines.specs.Character.{Character, characters}
use Rattle.requirement_lines.specs.Ends.{begins_with}
use Rattle.requirement_lines.specs.Logical.{without_mark}
use Rattle.requirement_lines.specs.declared.positions.Position.{Position}

-- a line ends at a line feed, and at a carriage return that no line feed follows
abbrev pub ends_line : ℕ → List Character → Bool
ends_line c rest = c == 10 || c == 13 && not (begins_with 10 rest)

abbrev pub first_position : Position
first_position = record { line = 1; column = 1 }

-- the position after a character, which the rest of the file follows
abbrev pub next_position : Position → ℕ → List Character → Position
next_position here c rest =
    if ends_line c rest then record { line = here.line + 1; column = 1 }
    else record { line = here.line; column = here.column + 1 }

-- The position of the place from which `to_end` bytes are left. The first of the characters is
-- `here`.
abbrev pub position_from : Position → ℕ → List Character → Position
position_from here to_end [] = here
position_from here to_end (p ∷ ps) =
    if nat_lt to_end p.place.to_end then position_from (next_position here p.char ps) to_end ps
    else here

-- the position of a place of a file
abbrev pub position_in : List ℕ → ℕ → Position
position_in file to_end =
    position_from first_position to_end (without_mark (characters file))

-- the position of a place of the file, which is in its rest, counted from the front of the rest
abbrev pub IsCountedFrom : Position → List ℕ → List ℕ → ℕ → Type 0
IsCountedFrom here rest file to_end =
    position_in file to_end ≡ position_from here to_end (characters rest)

-- `rest` is the end of a text, and places in it have the same positions, counted from the front of
-- the text or of the rest; lines and columns did not grow by more than what is before it
pub record GoesOnFrom (here : Position) (text : List ℕ) (there : Position) (rest : List ℕ)
    : Type 0 where
  pub suffix : IsSuffix text rest
  pub goes_on : (to_end : ℕ) → to_end ≤ length rest
      → position_from here to_end (characters text) ≡ position_from there to_end (characters rest)
  pub line_fits : there.line + length rest ≤ here.line + length text
  pub column_fits : there.column + length rest ≤ here.column + length text

-- `rest` is what is left of the file after a place with this position
pub record StandsAt (file rest : List ℕ) (position : Position) : Type 0 where
  pub suffix : IsSuffix file rest
  pub goes_on : (to_end : ℕ) → to_end ≤ length rest
      → position_in file to_end ≡ position_from position to_end (characters rest)
  pub line_fits : position.line + length rest ≤ length file + 1
  pub column_fits : position.column + length rest ≤ length file + 1
