-- Pieces of lines, and lines made of them.
use Rattle.std.specs.Prelude.{◌≡◌, ℕ, List, [], ◌∷◌, ◌++◌, length, IsUtf8}
use Rattle.std.specs.List.{flat_map}
use Rattle.std.specs.Str.{chars}
use Rattle.requirement_lines.specs.Character.{Character, after, character_at, characters_at}
use Rattle.requirement_lines.specs.declared.pieces.Piece.{Piece}
use Rattle.requirement_lines.specs.declared.places.Place.{Place}

-- the characters of a piece, at their places
abbrev pub characters_of : Piece → List Character
characters_of piece = characters_at piece.place (chars piece.text.now)

-- the characters of a line
abbrev pub line_of : List Piece → List Character
line_of pieces = flat_map characters_of pieces

-- the piece has no character
abbrev pub HasNoCharacter : Piece → Type 0
HasNoCharacter piece = characters_of piece ≡ []

-- the piece has this character, and then those of the rest
abbrev pub HasFirst : Piece → ℕ × Piece → Type 0
HasFirst piece x = characters_of piece ≡ character_at piece.place x.0 ∷ characters_of x.1

-- the piece has the characters of a front, and then this one
abbrev pub HasLast : Piece → Piece × ℕ → Type 0
HasLast piece x = (place : Place)
    × (characters_of piece ≡ characters_of x.0 ++ (character_at place x.1 ∷ []))

-- the piece has the characters of a front, and then those of the rest
abbrev pub IsMadeOf : Piece → Piece → Piece → Type 0
IsMadeOf piece front rest = characters_of piece ≡ characters_of front ++ characters_of rest

-- `rest` is what is left of the piece after a front
pub record IsEnd (whole rest : Piece) : Type 0 where
  pub front : List ℕ
  pub parts : whole.text.now ≡ front ++ rest.text.now
  pub utf8 : IsUtf8 rest.text.now
  pub place : rest.place ≡ after whole.place (length front)
