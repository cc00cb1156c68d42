-- How a fault of a text is shown: the message, the text, and a line of carets under the span. Texts
-- are lists of bytes, and places in a text and lengths count bytes.
use Rattle.std.specs.Prelude.{ℕ, ◌+◌, ◌-◌, ◌<◌, nat_lt, nat_le, false, List, [], ◌∷◌, ◌++◌, drop, length, replicate, sum_by, take, unwrap_or, if◌then◌else◌}
use Rattle.std.specs.Char.{len_utf8}
use Rattle.std.specs.Str.{chars, IsCharBoundary}
use Rattle.unicode_width.specs.Width.{char_width}

-- the columns of a character: its width, or 0 if it has none, as a control character
abbrev pub column_width : ℕ → ℕ
column_width c = unwrap_or (char_width false c) 0

-- the columns of characters
abbrev pub columns : List ℕ → ℕ
columns cs = sum_by column_width cs

-- those of the characters that end within the first n bytes
abbrev pub ending_within : ℕ → List ℕ → List ℕ
ending_within n [] = []
ending_within n (c ∷ cs) =
    if nat_le (len_utf8 c) n then c ∷ ending_within (n - len_utf8 c) cs else []

-- the columns of the text before a place
abbrev pub columns_before : List ℕ → ℕ → ℕ
columns_before text place = columns (ending_within place (chars text))

-- how many carets show a span: its columns, and one at the end of the text
abbrev pub carets : List ℕ → ℕ → ℕ → ℕ
carets text start len =
    if nat_lt start (length text) then columns_before text (start + len) - columns_before text start
    else 1

-- spaces up to the span, and carets
abbrev pub underline : List ℕ → ℕ → ℕ → List ℕ
underline text start len =
    replicate (columns_before text start) 32 ++ replicate (carets text start len) 94

-- three lines: the message, the text and the underline
abbrev pub shown : List ℕ → List ℕ → ℕ → ℕ → List ℕ
shown message text start len = message ++ (10 ∷ (text ++ (10 ∷ underline text start len)))

-- the span begins in the text, and each of its ends is a place between characters
pub record IsWholeSpan (text : List ℕ) (start len : ℕ) : Type 0 where
  pub inside : start < length text
  pub begins : IsCharBoundary text start
  pub ends : IsCharBoundary text (start + len)

-- a space for each column before a span, and a caret for each of its own
abbrev pub span_underline : List ℕ → ℕ → ℕ → List ℕ
span_underline text start len =
    replicate (columns (chars (take start text))) 32
    ++ replicate (columns (chars (take len (drop start text)))) 94
