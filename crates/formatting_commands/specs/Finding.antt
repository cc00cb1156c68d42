-- Which parts of a requirements file are replaced: the requirements of its lines, one by one and in
-- their order. A rewriter says by what.
use Rattle.std.specs.Prelude.{◌≡◌, ◌≢◌, ℕ, ◌-◌, List, [], ◌∷◌, ◌++◌, Option, None, Some, option_map, drop, length, String, string_bytes}
use Rattle.std.specs.Option.{option_to_list}
use Rattle.std.specs.Str.{IsCharBoundary, trim_end}
use Rattle.pep508_text.specs.Suffix.{IsSuffix}
use Rattle.requirement_lines.specs.Character.{Character, characters}
use Rattle.requirement_lines.specs.Logical.{logical_lines, without_mark}
use Rattle.requirement_lines.specs.Reports.{text_of, requirement_of, place_at}
use Rattle.requirement_lines.specs.Pieces.{line_of}
use Rattle.requirement_lines.specs.declared.pieces.Piece.{Piece}
use Rattle.requirement_lines.specs.declared.places.Source.TheVariants.{File}
use Rattle.formatting_commands.specs.declared.applying.Edit.{Edit}
use Rattle.formatting_commands.specs.declared.lines.LineText.{LineText}

-- the requirement of a line: the text before its options, without white space at its end
abbrev pub requirement_text : List Character → List ℕ
requirement_text line = trim_end (text_of (requirement_of line))

-- what follows the requirement in its line: white space and options
abbrev pub options_text : List Character → List ℕ
options_text line = drop (length (requirement_text line)) (text_of line)

abbrev pub options_in : LineText → List ℕ
options_in line = drop (length (string_bytes line.requirement)) (string_bytes line.whole)

-- the text has the requirement of the line, and the text of the whole line
abbrev pub HasRequirement : List Piece → LineText → Type 0
HasRequirement line text = string_bytes text.requirement ≡ requirement_text (line_of line)

abbrev pub HasWhole : List Piece → LineText → Type 0
HasWhole line text = string_bytes text.whole ≡ text_of (line_of line)

-- the line with this requirement, if it has that, has other options than the old one
abbrev pub IsUnlike : LineText → List ℕ → LineText → Type 0
IsUnlike line requirement old =
    string_bytes line.requirement ≡ requirement → options_in line ≢ options_in old

-- how many bytes are left from the first character of a line to the end of the file
abbrev pub left_from : List Character → ℕ
left_from line = (place_at (record { to_end = 0; source = File }) line 0).to_end

-- no such part begins at this byte of the text
abbrev pub Lacks : List ℕ → List ℕ → ℕ → Type 0
Lacks text part start =
    IsCharBoundary text start → (back : List ℕ) → drop start text ≢ part ++ back

-- The first line of the text, which `rest` follows, has its requirement in one piece, between
-- `front` and `back`.
pub record IsBetween (line : List Character) (text rest front back : List ℕ) : Type 0 where
  pub parts : text ≡ front ++ (requirement_text line ++ (back ++ rest))
  pub start : length front ≡ length text - left_from line

-- the text has one line, with this requirement and what follows it
pub record IsLineAlone (text requirement options : List ℕ) : Type 0 where
  pub line : List Character
  pub lines : logical_lines (characters text) ≡ line ∷ []
  pub requirement_is : requirement_text line ≡ requirement
  pub options_are : options_text line ≡ options

-- the same, with the options of an old line
abbrev pub IsAloneWith : List ℕ → List ℕ → LineText → Type 0
IsAloneWith text requirement old = IsLineAlone text requirement (options_in old)

-- this text is the answer for the requirement, or none
abbrev pub AnswersWith : {State A : Type 0} → (State → List ℕ → Option (List ℕ) → State → Type 0)
    → State → List ℕ → Option (String A) → State → Type 0
AnswersWith Answers old requirement answer new =
    Answers old requirement (option_map string_bytes answer) new

module _ {State : Type 0} (Answers : State → List ℕ → Option (List ℕ) → State → Type 0)
    (size : ℕ) where
  -- The line is the first one of the text, and `rest` follows it. From the state `old` these are
  -- the edits of the line, at most one, and the state is `new` then.
  pub data EditsLine (line : List Character) (text rest : List ℕ)
      : State → List Edit → State → Type 0 where
    -- the line has only options
    options : {state : State} → requirement_text line ≡ []
        → EditsLine line text rest state [] state
    -- the text does not have the requirement in one piece, such as on a continued line
    in_parts : {state : State} (block : List ℕ) → text ≡ block ++ rest
        → Lacks block (requirement_text line) (length text - left_from line)
        → EditsLine line text rest state [] state
    -- the rewriter leaves it as it is
    same : {old new : State} → Answers old (requirement_text line) None new
        → EditsLine line text rest old [] new
    -- the line with the answer in its place is not read as before, with the answer
    unlike : {old new : State} (front back answer : List ℕ)
        → IsBetween line text rest front back
        → Answers old (requirement_text line) (Some answer) new
        → ¬ IsLineAlone (front ++ (answer ++ back)) answer (options_text line)
        → EditsLine line text rest old [] new
    -- it is replaced by the answer, and the line is read as before with that in its place
    replaced : {old new : State} {edit : Edit} (front back : List ℕ)
        → IsBetween line text rest front back
        → Answers old (requirement_text line) (Some (string_bytes edit.text)) new
        → IsLineAlone (front ++ (string_bytes edit.text ++ back)) (string_bytes edit.text)
        (options_text line)
        → edit.start ≡ size - length (requirement_text line ++ (back ++ rest))
        → edit.end ≡ size - length (back ++ rest)
        → EditsLine line text rest old (edit ∷ []) new

  -- the edit of a line in pieces
  abbrev pub EditsPieces : List Piece → List ℕ → List ℕ → State → State → Option Edit → Type 0
  EditsPieces line text rest old new edit =
      EditsLine (line_of line) text rest old (option_to_list edit) new

  -- the edits of the lines of the text, one by one and in their order
  pub data EditsLines : State → List ℕ → List Edit → State → Type 0 where
    none : {state : State} {text : List ℕ} → logical_lines (characters text) ≡ []
        → EditsLines state text [] state
    more : {old middle new : State} {text rest : List ℕ} {line : List Character}
        {first edits : List Edit}
        → IsSuffix text rest
        → logical_lines (characters text) ≡ line ∷ logical_lines (characters rest)
        → EditsLine line text rest old first middle → EditsLines middle rest edits new
        → EditsLines old text (first ++ edits) new

-- the edits of a file, which may begin with a byte order mark
pub record EditsFile {State : Type 0}
    (Answers : State → List ℕ → Option (List ℕ) → State → Type 0) (file : List ℕ)
    (old : State) (edits : List Edit) (new : State) : Type 0 where
  pub text : List ℕ
  pub suffix : IsSuffix file text
  pub unmarked : characters text ≡ without_mark (characters file)
  pub found : EditsLines Answers (length file) old text edits new
