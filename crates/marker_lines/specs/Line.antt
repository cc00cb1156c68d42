-- The request of a line of the program `markers`. A line is UTF-8, and is given here as bytes,
-- without its line feed.
use Rattle.std.specs.Prelude.{◌≡◌, ◌≢◌, ℕ, ◌<◌, ◌-◌, ◌^◌, min, List, [], ◌∷◌, ◌++◌, length, slice_index, All, EachIndex, Option, MatchOption, codes}
use Rattle.std.specs.Int.{IsInRange}
use Rattle.std.specs.Str.Parse.{IsNumeral, digits_value}
use Rattle.std.specs.declared.ops.Bound.{Bound}
use Rattle.std.specs.declared.ops.Bound.TheVariants.{Included, Excluded, Unbounded}
use Rattle.pep508_markers.specs.Machine as Machine
use Rattle.pep508_markers.specs.Machine.{make}
use Rattle.marker_lines.specs.declared.word.Word.{Word}
use Rattle.marker_lines.specs.declared.word.Word.TheVariants.{Env, Parse, OnOne, OnTwo, WithNames, WithRange}
use Rattle.marker_lines.specs.declared.word.CellCommand.{CellCommand}
use Rattle.marker_lines.specs.declared.word.PairCommand.{PairCommand}
use Rattle.marker_lines.specs.declared.word.NamesCommand.{NamesCommand}
use Rattle.marker_lines.specs.declared.word.RangeCommand.{RangeCommand}
use Rattle.marker_lines.specs.Word.{word_text, cell_request, pair_request}

-- two texts, separated by one space
abbrev pub with_space : List ℕ → List ℕ → List ℕ
with_space before after = before ++ (32 ∷ after)

-- no byte is a space
abbrev pub HasNoSpace : List ℕ → Type 0
HasNoSpace bytes = All (λ b. b ≢ 32) bytes

-- a word is not empty and has no space
pub record IsWord (bytes : List ℕ) : Type 0 where
  pub some : bytes ≢ []
  pub no_space : HasNoSpace bytes

-- The text is these words, one or more, separated by exactly one space.
pub data Words : List ℕ → List (List ℕ) → Type 0 where
  last : {word : List ℕ} → IsWord word → Words word (word ∷ [])
  more : {text word rest : List ℕ} {words : List (List ℕ)} → text ≡ with_space word rest
      → IsWord word → Words rest words → Words text (word ∷ words)

-- the text is no list of words
abbrev pub HasNoWords : List ℕ → Type 0
HasNoWords text = (words : List (List ℕ)) → Words text words → ⊥

-- one ASCII digit or more
abbrev pub AreDigits : List ℕ → Type 0
AreDigits word =
    (0 < length word) × EachIndex word (λ k. IsInRange 48 57 (slice_index word k))

-- The number of a cell, in ASCII digits (leading zeros do not count). Every number from the
-- greatest usize on, which no cell has, is read as that one.
abbrev pub cell_number : List ℕ → ℕ
cell_number digits = min (digits_value 10 digits) (2 ^ 64 - 1)

-- the text is the number of this cell
pub record OneCell (text : List ℕ) (cell : ℕ) : Type 0 where
  pub digits : IsNumeral 10 text
  pub number : cell ≡ cell_number text

-- the text is the numbers of these two cells, separated by one space
pub record TwoCells (text : List ℕ) (left right : ℕ) : Type 0 where
  pub first : List ℕ
  pub second : List ℕ
  pub parts : text ≡ with_space first second
  pub is_left : OneCell first left
  pub is_right : OneCell second right

-- how a bound is written, with the text of its version
abbrev pub bound_word : Bound (List ℕ) → List ℕ
bound_word (Included version) = codes "incl:" ++ version
bound_word (Excluded version) = codes "excl:" ++ version
bound_word Unbounded = codes "none"

-- two cells are read of the text, or it is not those of two
abbrev pub ReadsTwoCells : List ℕ → Option (ℕ × ℕ) → Type 0
ReadsTwoCells text cells = MatchOption cells
    ((left right : ℕ) → TwoCells text left right → ⊥) (λ x. TwoCells text x.0 x.1)

-- the text is the number of this cell and these two bounds, separated by one space each
pub record CellAndBounds (text : List ℕ) (cell : ℕ)
    (lower upper : Bound (List ℕ)) : Type 0 where
  pub number : List ℕ
  pub parts : text ≡ with_space number (with_space (bound_word lower) (bound_word upper))
  pub is_cell : OneCell number cell
  pub lower_word : HasNoSpace (bound_word lower)
  pub upper_word : HasNoSpace (bound_word upper)

-- the text is the number of this cell and these names, separated by one space each
pub record CellAndNames (text : List ℕ) (cell : ℕ) (names : List (List ℕ)) : Type 0 where
  pub number : List ℕ
  pub words : Words text (number ∷ names)
  pub is_cell : OneCell number cell

-- the text is no number of a cell and names
abbrev pub LacksCellAndNames : List ℕ → Type 0
LacksCellAndNames text = (cell : ℕ) (names : List (List ℕ)) → CellAndNames text cell names → ⊥

-- the requests of lines
pub data Request : Type 0 where
  set : (key value : List ℕ) → Request
  -- a request to the machine as it is
  run : Machine.Request → Request
  with_names : NamesCommand → (cell : ℕ) (names : List (List ℕ)) → Request
  -- bounds with the texts of their versions
  with_range : RangeCommand → (cell : ℕ) (lower upper : Bound (List ℕ)) → Request

-- After this word the text is this request.
pub data Takes : Word → List ℕ → Request → Type 0 where
  -- env KEY VALUE: the value is the rest of the line as it is
  key_and_value : {text key value : List ℕ} → text ≡ with_space key value → HasNoSpace key
      → Takes Env text (set key value)
  -- parse TEXT: the text is the rest of the line as it is
  marker : {text : List ℕ} → Takes Parse text (run (make (Machine.parse text)))
  -- not A, text A
  one_cell : {command : CellCommand} {text : List ℕ} {cell : ℕ} → OneCell text cell
      → Takes (OnOne command) text (run (cell_request command cell))
  -- and A B, or A B, equal A B, disjoint A B
  two_cells : {command : PairCommand} {text : List ℕ} {left right : ℕ} → TwoCells text left right
      → Takes (OnTwo command) text (run (pair_request command left right))
  -- extras A NAME .., eval A NAME .., possible A NAME ..
  cell_and_names : {command : NamesCommand} {text : List ℕ} {cell : ℕ} {names : List (List ℕ)}
      → CellAndNames text cell names
      → Takes (WithNames command) text (with_names command cell names)
  -- simplify A LOWER UPPER, complexify A LOWER UPPER
  cell_and_bounds : {command : RangeCommand} {text : List ℕ} {cell : ℕ}
      {lower upper : Bound (List ℕ)} → CellAndBounds text cell lower upper
      → Takes (WithRange command) text (with_range command cell lower upper)

-- after this word the text is no request
abbrev pub TakesNothing : Word → List ℕ → Type 0
TakesNothing word text = (request : Request) → Takes word text request → ⊥

-- The line is this request. A line of no such form is malformed.
pub record Asks (line : List ℕ) (request : Request) : Type 0 where
  pub word : Word
  pub text : List ℕ
  pub parts : line ≡ with_space (word_text word) text
  pub takes : Takes word text request

-- the line is no other request
abbrev pub AsksOnly : List ℕ → Request → Type 0
AsksOnly line request = (other : Request) → Asks line other → other ≡ request

-- the line is no request
abbrev pub AsksNothing : List ℕ → Type 0
AsksNothing line = (request : Request) → Asks line request → ⊥
