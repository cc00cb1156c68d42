-- The words of a text, as in Python's `shlex`: white space separates words, except in quotes, and a
-- backslash escapes the next character; in double quotes only a double quote or a backslash.
use Rattle.std.specs.Prelude.{ℕ, Bool, true, false, not, ◌||◌, ◌&&◌, ◌==◌, List, [], ◌∷◌, if◌then◌else◌}
use Rattle.requirement_lines.specs.Character.{Character}
use Rattle.requirement_lines.specs.Ends.{begins_with}
use Rattle.requirement_lines.specs.declared.places.Place.{Place}
use Rattle.requirement_lines.specs.declared.quoting.Quoting.{Quoting}
use Rattle.requirement_lines.specs.declared.quoting.Quoting.TheVariants.{Between, Bare, Escaped, Single, Double, DoubleEscaped}
use Rattle.requirement_lines.specs.declared.quoting.Step.{Step}
use Rattle.requirement_lines.specs.declared.quoting.Step.TheVariants.{Pass, Begin, GoOn, End}

-- a space, a tab, a line feed or a carriage return
abbrev pub parts_words : ℕ → Bool
parts_words c = c == 32 || c == 9 || c == 10 || c == 13

-- in double quotes a backslash escapes the first character of such a text
abbrev pub can_be_taken : List Character → Bool
can_be_taken ps = begins_with 34 ps || begins_with 92 ps

-- the quotes around the next character, after one outside of quotes
abbrev pub after_bare : ℕ → Quoting
after_bare c =
    if parts_words c then Between else (if c == 39 then Single
    else (if c == 34 then Double else (if c == 92 then Escaped else Bare)))

-- the quotes around the next character; `taken` says whether a backslash in double quotes escapes
-- it
abbrev pub next_quoting : Quoting → ℕ → Bool → Quoting
next_quoting Between c taken = after_bare c
next_quoting Bare c taken = after_bare c
next_quoting Escaped c taken = Bare
next_quoting Single c taken = if c == 39 then Bare else Single
next_quoting Double c taken =
    if c == 34 then Bare else (if c == 92 && taken then DoubleEscaped else Double)
next_quoting DoubleEscaped c taken = Double

-- what a character does to the words
abbrev pub step_at : Quoting → ℕ → Step
step_at Between c = if parts_words c then Pass else Begin
step_at Bare c = if parts_words c then End else GoOn
step_at Escaped c = GoOn
step_at Single c = GoOn
step_at Double c = GoOn
step_at DoubleEscaped c = GoOn

abbrev pub is_bare : ℕ → Bool
is_bare c = not (parts_words c || c == 39 || c == 34 || c == 92)

-- the character belongs to the text of a word
abbrev pub is_kept : Quoting → ℕ → Bool → Bool
is_kept Between c taken = is_bare c
is_kept Bare c taken = is_bare c
is_kept Escaped c taken = true
is_kept Single c taken = not (c == 39)
is_kept Double c taken = not (c == 34 || c == 92 && taken)
is_kept DoubleEscaped c taken = true

-- where the quotes or the backslash around the next character are
abbrev pub opened_at : Quoting → Place → Place → Place
opened_at Between place opened = place
opened_at Bare place opened = place
opened_at Escaped place opened = opened
opened_at Single place opened = opened
opened_at Double place opened = opened
opened_at DoubleEscaped place opened = opened

-- a word: the place at which it begins, with its quotes, and its characters without them
pub record Spelled : Type 0 where
  pub place : Place
  pub characters : List Character

-- What a text is split into: the rest of the word in which it begins, and the words after that. Or
-- the place of quotes that do not end, or of a backslash with nothing after it.
pub data Parted : Type 0 where
  unclosed : Place → Parted
  parts : List Character → List Spelled → Parted

-- a character before others, if it is kept
abbrev pub keep : Bool → Character → List Character → List Character
keep true p ps = p ∷ ps
keep false p ps = ps

-- what the text is split into that has a character before what was split
abbrev pub put : Step → Bool → Character → Parted → Parted
put now kept p (unclosed place) = unclosed place
put Pass kept p (parts rest others) = parts [] others
put Begin kept p (parts rest others) =
    parts [] (record { place = p.place; characters = keep kept p rest } ∷ others)
put GoOn kept p (parts rest others) = parts (keep kept p rest) others
put End kept p (parts rest others) = parts [] others

-- what the end of a text is split into
abbrev pub ended : Quoting → Place → Parted
ended Between opened = parts [] []
ended Bare opened = parts [] []
ended Escaped opened = unclosed opened
ended Single opened = unclosed opened
ended Double opened = unclosed opened
ended DoubleEscaped opened = unclosed opened

-- the words of a text whose first character is in these quotes, which were opened there
abbrev pub split : Quoting → Place → List Character → Parted
split quoting opened [] = ended quoting opened
split quoting opened (p ∷ ps) =
    put (step_at quoting p.char) (is_kept quoting p.char (can_be_taken ps)) p
    (split (next_quoting quoting p.char (can_be_taken ps)) (opened_at quoting p.place opened) ps)

-- the words of a text; `start` is any place
abbrev pub words_of : Place → List Character → Parted
words_of start ps = split Between start ps
