-- Characters with their places. A place counts the bytes from the character to the end of the file,
-- so the text before a character does not matter.
use Rattle.std.specs.Prelude.{ℕ, ◌-◌, List, [], ◌∷◌, length}
use Rattle.std.specs.Char.{len_utf8}
use Rattle.std.specs.Str.{chars}
use Rattle.requirement_lines.specs.declared.places.Place.{Place}
use Rattle.requirement_lines.specs.declared.places.Source.{Source}
use Rattle.requirement_lines.specs.declared.places.Source.TheVariants.{File, Variable}

pub record Character : Type 0 where
  pub char : ℕ
  pub place : Place

-- a character at a place
abbrev pub character_at : Place → ℕ → Character
character_at place c = record { char = c; place = place }

-- how many bytes are left after so many of them
abbrev pub left_after : Source → ℕ → ℕ → ℕ
left_after File to_end size = to_end - size
left_after Variable to_end size = to_end

-- the place so many bytes further on: the same one within the value of a variable
abbrev pub after : Place → ℕ → Place
after place size =
    record { to_end = left_after place.source place.to_end size; source = place.source }

-- the characters, from a place on
abbrev pub characters_at : Place → List ℕ → List Character
characters_at place [] = []
characters_at place (c ∷ cs) =
    record { char = c; place = place } ∷ characters_at (after place (len_utf8 c)) cs

-- the place after the last character of a file
abbrev pub end_of_file : Place
end_of_file = record { to_end = 0; source = File }

-- the place of the first character of a file
abbrev pub start_of : List ℕ → Place
start_of text = record { to_end = length text; source = File }

-- the characters of a file
abbrev pub characters : List ℕ → List Character
characters text = characters_at (start_of text) (chars text)
