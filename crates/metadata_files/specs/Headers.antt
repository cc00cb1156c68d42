-- The headers of a metadata file, as Python's `email` reads them: up to an empty line, or a line
-- that neither is a header nor continues one. The other lines are the body.
use Rattle.std.specs.Prelude.{◌≡◌, ℕ, Bool, true, false, not, nat_le, ◌||◌, ◌&&◌, ◌==◌, List, [], ◌∷◌, Option, None, Some, MatchOption, map, option_map, reverse, if◌then◌else◌}
use Rattle.std.specs.Char.{is_whitespace}
use Rattle.requirement_lines.specs.Character.{Character, characters}
use Rattle.requirement_lines.specs.Ends.{begins_with}
use Rattle.requirement_lines.specs.Pieces.{characters_of}
use Rattle.requirement_lines.specs.Reports.{text_of}
use Rattle.requirement_lines.specs.declared.pieces.Piece.{Piece}
use Rattle.metadata_files.specs.Fields.{IsKind}
use Rattle.metadata_files.specs.Lines.{folded_lines}
use Rattle.metadata_files.specs.declared.field.Field.{Field}
use Rattle.metadata_files.specs.declared.field.FieldKind.{FieldKind}
use Rattle.metadata_files.specs.declared.headers.Headers.{Headers}

-- a character of a name (RFC 5322, 3.6.8): one of `!` to `~`, except `:`
abbrev pub is_name_character : ℕ → Bool
is_name_character c = nat_le 33 c && nat_le c 126 && not (c == 58)

-- what follows the name of a header and its `:`, if the line begins with these
abbrev pub after_name : List Character → Option (List Character)
after_name [] = None
after_name (p ∷ ps) =
    if p.char == 58 then Some ps
    else (if is_name_character p.char then after_name ps else None)

-- the characters before the first `:`
abbrev pub name_of : List Character → List Character
name_of [] = []
name_of (p ∷ ps) = if p.char == 58 then [] else p ∷ name_of ps

-- without white space at the front
abbrev pub skip_space : List Character → List Character
skip_space [] = []
skip_space (p ∷ ps) = if is_whitespace p.char then skip_space ps else p ∷ ps

-- without white space at the back
abbrev pub skip_space_back : List Character → List Character
skip_space_back ps = reverse (skip_space (reverse ps))

abbrev pub trimmed : List Character → List Character
trimmed text = skip_space (skip_space_back text)

-- the line is a header with this name, and what follows its `:`
abbrev pub IsHeader : List Character → Piece × Piece → Type 0
IsHeader line parts = (name_of line ≡ characters_of parts.0)
    × (after_name line ≡ Some (characters_of parts.1))

-- a header of the line, or it has none
abbrev pub SplitsName : List Character → Option (Piece × Piece) → Type 0
SplitsName line parts = MatchOption parts (after_name line ≡ None) (IsHeader line)

-- an empty line
abbrev pub is_empty : List Character → Bool
is_empty line = begins_with 10 line || begins_with 13 line

-- a field: its kind, its name and its value
pub record Entry : Type 0 where
  pub kind : FieldKind
  pub name : List Character
  pub value : List Character

-- The folded lines have these fields, each header once and in order. `stray` is the line that ends
-- the headers, if that is not empty.
pub data AreHeaders : List (List Character) → List Entry → Option (List Character) → Type 0 where
  ended : AreHeaders [] [] None
  empty : {line : List Character} {lines : List (List Character)}
      → is_empty line ≡ true → AreHeaders (line ∷ lines) [] None
  stray : {line : List Character} {lines : List (List Character)}
      → is_empty line ≡ false → after_name line ≡ None → AreHeaders (line ∷ lines) [] (Some line)
  header : {line text : List Character} {lines : List (List Character)} {kind : FieldKind}
      {entries : List Entry} {last : Option (List Character)}
      → after_name line ≡ Some text → IsKind (text_of (name_of line)) kind
      → AreHeaders lines entries last
      → AreHeaders (line ∷ lines)
      (record { kind = kind; name = name_of line; value = trimmed text } ∷ entries) last

abbrev pub entry_of : Field → Entry
entry_of field = record {
  kind = field.kind;
  name = characters_of field.name;
  value = characters_of field.value;
}

-- these are the headers of the file
abbrev pub HeadersIn : List ℕ → Headers → Type 0
HeadersIn file headers = AreHeaders (folded_lines (characters file))
    (map entry_of headers.fields.items) (option_map characters_of headers.stray)
