-- Logical lines, as in pip: a line that ends in a backslash is continued in the next one, unless it
-- is a comment; comments are removed from the joined line, and white space at both ends; blank
-- lines do not count.
use Rattle.std.specs.Prelude.{◌≡◌, ℕ, Bool, true, not, List, [], ◌∷◌, ◌++◌, ◌&&◌, ◌==◌, reverse, Option, MatchOption, Vec, if◌then◌else◌}
use Rattle.std.specs.Borrow.{Bor}
use Rattle.std.specs.declared.alloc.Global.{Global}
use Rattle.requirement_lines.specs.Character.{Character, characters}
use Rattle.requirement_lines.specs.Ends.{skip, skip_back, begins_with}
use Rattle.requirement_lines.specs.Physical.{physical_lines}
use Rattle.requirement_lines.specs.Marks.{before}
use Rattle.requirement_lines.specs.Pieces.{line_of}
use Rattle.requirement_lines.specs.declared.pieces.Piece.{Piece}
use Rattle.requirement_lines.specs.declared.sets.CharacterSet.TheVariants.{Space, Backslash}
use Rattle.requirement_lines.specs.declared.sets.Mark.TheVariants.{Comment}

-- the first character after white space is `#`
abbrev pub is_comment : List Character → Bool
is_comment line = begins_with 35 (skip Space line)

abbrev pub is_continued : List Character → Bool
is_continued line = begins_with 92 (reverse line) && not (is_comment line)

-- The part of a line in its logical line: all but the backslashes at its ends if it is continued;
-- nothing if it is a comment; otherwise all of it.
abbrev pub part_of : List Character → List Character
part_of line =
    if is_continued line then skip_back Backslash (skip Backslash line)
    else (if is_comment line then [] else line)

-- the front belongs to the first of the lines
abbrev pub with_front : List Character → List (List Character) → List (List Character)
with_front front [] = front ∷ []
with_front front (line ∷ lines) = (front ++ line) ∷ lines

-- the lines, each with those in which it is continued
abbrev pub joined : List (List Character) → List (List Character)
joined [] = []
joined (line ∷ lines) =
    if is_continued line then with_front (part_of line) (joined lines)
    else part_of line ∷ joined lines

-- without comment, and without white space at the ends
abbrev pub trimmed : List Character → List Character
trimmed line = skip_back Space (skip Space (before Comment true line))

-- a line before others, if it is not blank
abbrev pub with_text : List Character → List (List Character) → List (List Character)
with_text [] lines = lines
with_text (p ∷ ps) lines = (p ∷ ps) ∷ lines

abbrev pub trimmed_lines : List (List Character) → List (List Character)
trimmed_lines [] = []
trimmed_lines (line ∷ lines) = with_text (trimmed line) (trimmed_lines lines)

-- the logical lines of these characters
abbrev pub logical_lines : List Character → List (List Character)
logical_lines ps = trimmed_lines (joined (physical_lines ps))

-- the text has the logical lines of the rest, after this line with its continuations unless blank
abbrev pub HasJoinedLine : List ℕ → List Piece → List ℕ → Type 0
HasJoinedLine text line rest = logical_lines (characters text)
    ≡ with_text (trimmed (line_of line)) (logical_lines (characters rest))

-- the first logical line of the text, and the rest of the text, which has the others
abbrev pub IsNextLine : List ℕ → Option (Vec Piece Global × Bor (List ℕ)) → Type 0
IsNextLine text next = MatchOption next (logical_lines (characters text) ≡ [])
    (λ x. logical_lines (characters text)
    ≡ line_of x.0.items ∷ logical_lines (characters x.1.now))

-- a byte order mark at the front does not belong to the text
abbrev pub without_mark : List Character → List Character
without_mark [] = []
without_mark (p ∷ ps) = if p.char == 65279 then ps else p ∷ ps

-- the logical lines of a file
abbrev pub lines_of_file : List ℕ → List (List Character)
lines_of_file text = logical_lines (without_mark (characters text))
