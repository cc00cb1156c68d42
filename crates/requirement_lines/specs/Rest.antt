-- What is left of a line: a piece, and the pieces of the line from an index on.
use Rattle.std.specs.Prelude.{◌≡◌, ℕ, List, [], ◌∷◌, ◌++◌, drop, Option, MatchOption}
use Rattle.requirement_lines.specs.Character.{Character}
use Rattle.requirement_lines.specs.Pieces.{characters_of, line_of}
use Rattle.requirement_lines.specs.declared.pieces.Piece.{Piece}
use Rattle.requirement_lines.specs.declared.rest.Rest.{Rest}

abbrev pub rest_of : List Piece → Rest → List Character
rest_of line rest = characters_of rest.piece ++ line_of (drop rest.next line)

-- what is left begins with this character, which is a piece by itself, and the rest follows it
abbrev pub BeginsWith : List Piece → Rest → ℕ × Piece × Rest → Type 0
BeginsWith line rest first =
    (rest_of line rest
    ≡ record { char = first.0; place = first.1.place } ∷ rest_of line first.2)
    × (characters_of first.1 ≡ record { char = first.0; place = first.1.place } ∷ [])

-- the first character of what is left, and the rest; nothing at the end of the line
abbrev pub IsNextCharacter : List Piece → Rest → Option (ℕ × Piece × Rest) → Type 0
IsNextCharacter line rest next =
    MatchOption next (rest_of line rest ≡ []) (BeginsWith line rest)
