-- Variables of a line, such as `${NAME}`, and the line with their values. A variable is replaced
-- wherever it is, and a value is not expanded again.
use Rattle.std.specs.Prelude.{◌≡◌, ℕ, Bool, true, false, not, ◌||◌, ◌==◌, List, [], ◌∷◌, ◌++◌, Option, None, Some, is_some, map, option_map, option_and_then, encode_utf8_all, String, string_bytes, Vec, if◌then◌else◌}
use Rattle.std.specs.Char.{is_ascii_digit, is_ascii_uppercase}
use Rattle.std.specs.Str.{chars}
use Rattle.std.specs.BTreeMap.{BTreeMap, get_by_text}
use Rattle.std.specs.Borrow.{Bor}
use Rattle.std.specs.declared.alloc.Global.{Global}
use Rattle.requirement_lines.specs.Character.{Character, character_at, characters_at}
use Rattle.requirement_lines.specs.Pieces.{characters_of, line_of}
use Rattle.requirement_lines.specs.declared.pieces.Piece.{Piece}
use Rattle.requirement_lines.specs.Logical.{lines_of_file}
use Rattle.requirement_lines.specs.declared.places.Place.{Place}
use Rattle.requirement_lines.specs.declared.places.Source.TheVariants.{Variable}

-- one of A to Z, 0 to 9 and `_`
abbrev pub is_name_character : ℕ → Bool
is_name_character c = is_ascii_uppercase c || is_ascii_digit c || c == 95

-- the characters of a name up to its `}`
abbrev pub name_before_brace : List Character → Option (List ℕ)
name_before_brace [] = None
name_before_brace (p ∷ ps) =
    if p.char == 125 then Some []
    else (if is_name_character p.char
    then option_map (λ name. p.char ∷ name) (name_before_brace ps) else None)

-- a name has at least one character
abbrev pub not_empty : List ℕ → Option (List ℕ)
not_empty [] = None
not_empty (c ∷ cs) = Some (c ∷ cs)

-- the name of a variable after its `$`: in `{NAME}`
abbrev pub braced_name : List Character → Option (List ℕ)
braced_name [] = None
braced_name (p ∷ ps) =
    if p.char == 123 then option_and_then not_empty (name_before_brace ps) else None

-- The value of the variable at the front. `value_of` has the values of names that have one.
abbrev pub value_at : (List ℕ → Option (List ℕ)) → List Character → Option (List ℕ)
value_at value_of [] = None
value_at value_of (p ∷ ps) =
    if p.char == 36
    then option_and_then (λ name. value_of (encode_utf8_all name)) (braced_name ps) else None

-- the characters of a value, all at the place of the variable
abbrev pub value_characters : Place → List ℕ → List Character
value_characters place value =
    characters_at (record { to_end = place.to_end; source = Variable }) (chars value)

-- the characters in place of a character, or of the variable that begins with it
abbrev pub in_place_of : Character → Option (List ℕ) → List Character
in_place_of p None = p ∷ []
in_place_of p (Some value) = value_characters p.place value

-- The line with values in place of its variables. `inside` says that the line begins within a
-- variable whose value was put in its place: nothing is kept up to its `}`.
abbrev pub replaced : (List ℕ → Option (List ℕ)) → Bool → List Character → List Character
replaced value_of inside [] = []
replaced value_of true (p ∷ ps) = replaced value_of (not (p.char == 125)) ps
replaced value_of false (p ∷ ps) = in_place_of p (value_at value_of (p ∷ ps))
    ++ replaced value_of (is_some (value_at value_of (p ∷ ps))) ps

-- the value of a name in the table, unless that is empty
abbrev pub value_of : {A : Type 0} → BTreeMap (String A) (String A) → List ℕ → Option (List ℕ)
value_of variables name =
    option_and_then (λ value. not_empty (string_bytes value)) (get_by_text variables name)

-- the name of a variable after its `$`
abbrev pub IsBracedName : {A : Type 0} → List Character → Option (String A) → Type 0
IsBracedName rest name =
    option_map string_bytes name ≡ option_map encode_utf8_all (braced_name rest)

-- the value of the variable that begins with this character, before the rest of a line
abbrev pub IsValueAfter : {A : Type 0} → BTreeMap (String A) (String A) → ℕ → Piece → List Piece
    → Option (Bor (List ℕ)) → Type 0
IsValueAfter variables c after others value = (place : Place) → option_map (λ v. v.now) value
    ≡ value_at (value_of variables)
    (character_at place c ∷ (characters_of after ++ line_of others))

-- The line made of what was kept, and of the rest with its values, stays the same as the piece is
-- read: the rest is the piece and the others before, and the others after.
abbrev pub FillsIn : {A : Type 0} → BTreeMap (String A) (String A) → Bool → Piece → List Piece
    → Vec Piece Global → Vec Piece Global → Bool → Type 0
FillsIn variables inside piece others old new still = line_of old.items
    ++ replaced (value_of variables) inside (characters_of piece ++ line_of others)
    ≡ line_of new.items ++ replaced (value_of variables) still (line_of others)

-- the line with the values of the table in place of its variables
abbrev pub with_values : {A : Type 0} → BTreeMap (String A) (String A) → List Character
    → List Character
with_values variables line = replaced (value_of variables) false line

-- the logical lines of a file, with values in place of variables
abbrev pub replaced_lines : (List ℕ → Option (List ℕ)) → List ℕ → List (List Character)
replaced_lines value_of text = map (replaced value_of false) (lines_of_file text)
