-- The state of splitting a text into words.
use Rattle.std.specs.Prelude.{◌≡◌, ℕ, Bool, true, false, List, [], ◌∷◌, ◌++◌, map}
use Rattle.requirement_lines.specs.Character.{Character, character_at}
use Rattle.requirement_lines.specs.Pieces.{line_of}
use Rattle.requirement_lines.specs.Words.{Spelled, Parted, keep, put, unclosed, parts}
use Rattle.requirement_lines.specs.declared.pieces.Piece.{Piece}
use Rattle.requirement_lines.specs.declared.places.Place.{Place}
use Rattle.requirement_lines.specs.declared.quoting.Quoting.{Quoting}
use Rattle.requirement_lines.specs.declared.quoting.Quoting.TheVariants.{Between, Bare, Escaped, Single, Double, DoubleEscaped}
use Rattle.requirement_lines.specs.declared.quoting.Step.{Step}
use Rattle.requirement_lines.specs.declared.quoting.Step.TheVariants.{Pass, Begin, GoOn, End}
use Rattle.requirement_lines.specs.declared.splitting.Word.{Word}
use Rattle.requirement_lines.specs.declared.splitting.Words.{Words}
use Rattle.requirement_lines.specs.declared.splitting.Words.TheVariants.{All, Unclosed}
use Rattle.requirement_lines.specs.declared.splitting.Reading.{Reading}

abbrev pub spelled_of : Word → Spelled
spelled_of word = record { place = word.place; characters = line_of word.pieces.items }

abbrev pub split_of : Words → Parted
split_of (All found) = parts [] (map spelled_of found.items)
split_of (Unclosed place) = unclosed place

-- the current word is complete: it is one more of the words
abbrev pub CompletesWord : Reading → Reading → Type 0
CompletesWord old new = map spelled_of new.words.items ≡ map spelled_of old.words.items
    ++ (record { place = old.place; characters = line_of old.pieces.items } ∷ [])

-- the current word has one more character, if that is kept
abbrev pub AddsKept : Bool → ℕ → Piece → Reading → Reading → Type 0
AddsKept kept c piece old new = line_of new.pieces.items
    ≡ line_of old.pieces.items ++ keep kept (character_at piece.place c) []

-- a word is not complete
abbrev pub goes_on : Quoting → Bool
goes_on Between = false
goes_on Bare = true
goes_on Escaped = true
goes_on Single = true
goes_on Double = true
goes_on DoubleEscaped = true

-- whether a word is not complete before a step, and after it
abbrev pub inside_before : Step → Bool
inside_before Pass = false
inside_before Begin = false
inside_before GoOn = true
inside_before End = true

abbrev pub inside_after : Step → Bool
inside_after Pass = false
inside_after Begin = true
inside_after GoOn = true
inside_after End = false

-- the words of a text of which these were read, and the front of an incomplete one
abbrev pub resume : Bool → List Spelled → Place → List Character → Parted → Parted
resume inside done place front (unclosed opened) = unclosed opened
resume true done place front (parts rest others) =
    parts [] (done ++ (record { place = place; characters = front ++ rest } ∷ others))
resume false done place front (parts rest others) = parts [] (done ++ others)

abbrev pub resumed : Reading → Parted → Parted
resumed reading split =
    resume reading.inside (map spelled_of reading.words.items) reading.place
    (line_of reading.pieces.items) split

-- the new state is the old one after a character
abbrev pub TakesOne : Step → Bool → ℕ → Piece → Reading → Reading → Type 0
TakesOne now kept c piece old new = (rest : Parted)
    → resumed old (put now kept (character_at piece.place c) rest) ≡ resumed new rest
