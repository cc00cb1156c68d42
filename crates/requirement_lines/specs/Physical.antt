-- Physical lines, as Python's `str.splitlines` has them: a line ends at a break, and a last line
-- without one counts if it is not empty.
use Rattle.std.specs.Prelude.{◌≡◌, ℕ, Bool, true, List, [], ◌∷◌, ◌||◌, ◌&&◌, ◌==◌, if◌then◌else◌}
use Rattle.requirement_lines.specs.Character.{Character, characters}
use Rattle.requirement_lines.specs.Ends.{begins_with}

-- line feed, vertical tab, form feed, carriage return, three separators, NEL, and U+2028 and U+2029
abbrev pub is_break : ℕ → Bool
is_break c = c == 10 || c == 11 || c == 12 || c == 13 || c == 28 || c == 29 || c == 30
    || c == 133 || c == 8232 || c == 8233

-- a carriage return before a line feed is left out: both are one break
abbrev pub single_breaks : List Character → List Character
single_breaks [] = []
single_breaks (p ∷ ps) =
    if p.char == 13 && begins_with 10 ps then single_breaks ps else p ∷ single_breaks ps

-- the character is the first of the first line
abbrev pub with_first : Character → List (List Character) → List (List Character)
with_first p [] = (p ∷ []) ∷ []
with_first p (line ∷ lines) = (p ∷ line) ∷ lines

abbrev pub broken_lines : List Character → List (List Character)
broken_lines [] = []
broken_lines (p ∷ ps) =
    if is_break p.char then [] ∷ broken_lines ps else with_first p (broken_lines ps)

abbrev pub physical_lines : List Character → List (List Character)
physical_lines ps = broken_lines (single_breaks ps)

-- a break ends a line, and the rest after it has the other lines
abbrev pub EndsAtBreak : ℕ → List Character → List Character → Type 0
EndsAtBreak c after rest = (p : Character) → p.char ≡ c → is_break c ≡ true
    → physical_lines (p ∷ after) ≡ [] ∷ physical_lines rest

-- the text has this physical line, and then those of the rest
abbrev pub HasFirstLine : List ℕ → List Character → List ℕ → Type 0
HasFirstLine text line rest =
    physical_lines (characters text) ≡ line ∷ physical_lines (characters rest)
