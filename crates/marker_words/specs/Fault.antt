-- The faults of marker texts. Texts, pieces and messages are lists of bytes, and lengths count
-- bytes.
use Rattle.std.specs.Prelude.{◌≡◌, ◌≢◌, ◌⊎◌, ℕ, ◌<◌, Bool, false, List, [], ◌∷◌, ◌++◌, length, if◌then◌else◌, codes, encode_utf8, encode_utf8_all}
use Rattle.std.specs.Str.{chars}
use Rattle.pep508_text.specs.Class.{holds}
use Rattle.pep508_text.specs.Run.{run_of, after_run, after_space}
use Rattle.pep508_text.specs.Suffix.{IsPiece, StandsAt, IsSpan, span_len}
use Rattle.pep508_text.specs.declared.classes.Class.{Class}
use Rattle.pep508_text.specs.declared.classes.Class.TheVariants.{Space, KeyPart, Comparison, WordPart, NotQuote, Alphabetic}
use Rattle.marker_words.specs.Lexical.{Value, IsQuote, IsValue, IsOperator, Sides}
use Rattle.marker_words.specs.Keyword.{NoKeyword}
use Rattle.marker_words.specs.declared.operator.MarkerOperator.{MarkerOperator}
use Rattle.marker_words.specs.declared.fault.Fault.{Fault}
use Rattle.marker_words.specs.declared.fault.FaultKind.{FaultKind}
use Rattle.marker_words.specs.declared.fault.FaultKind.TheVariants.{ValueAtEnd, NoValue, NoOperator, NotAtEnd, NoSpaceAfterNot, Unclosed, MissingAtEnd, Missing, Unexpected, Trailing}

-- the message of a fault; the piece is the text at its place
abbrev pub message_of : FaultKind → List ℕ → List ℕ
message_of ValueAtEnd piece = codes "Expected marker value, found end of dependency specification"
message_of NoValue piece = codes "Expected a quoted string or a valid marker name, found `" ++ (piece ++ codes "`")
message_of NoOperator piece = codes "Expected a valid marker operator (such as `>=` or `not in`), found `" ++ (piece ++ codes "`")
message_of NotAtEnd piece = codes "Expected whitespace after 'not', found end of input"
message_of NoSpaceAfterNot piece = codes "Expected whitespace after `not`, found `" ++ (piece ++ codes "`")
message_of (Unclosed c) piece = codes "Expected '" ++ (encode_utf8 c ++ codes "', found end of dependency specification")
message_of (MissingAtEnd c) piece = codes "Expected '" ++ (encode_utf8 c ++ codes "', found end of dependency specification")
message_of (Missing c) piece = codes "Expected `" ++ (encode_utf8 c ++ (codes "`, found `" ++ (piece ++ codes "`")))
message_of (Unexpected c) piece = codes "Unexpected character '" ++ (encode_utf8 c ++ codes "', expected 'and', 'or' or end of input")
message_of (Trailing c) piece = codes "Unexpected character '" ++ (encode_utf8 c ++ codes "', expected end of input")

-- an operator that is a word begins with an alphabetic character
abbrev pub begins_word : List ℕ → Bool
begins_word [] = false
begins_word (c ∷ cs) = holds Alphabetic c

-- the class of the run in place of an operator
abbrev pub operator_class : List ℕ → Class
operator_class cs = if begins_word cs then WordPart else Comparison

-- `run` is the longest run of its class at the front of `run` and `back`
abbrev pub IsLongest : Class → List ℕ → List ℕ → Type 0
IsLongest class run back = run ≡ encode_utf8_all (run_of class (chars (run ++ back)))

-- the text begins with no value: no quoted text, no key and no `extra`
abbrev pub HasNoValue : List ℕ → Type 0
HasNoValue text = (output : List ℕ) (value : Value) → IsValue (chars text) output value → ⊥

abbrev pub HasNoOperator : List ℕ → Type 0
HasNoOperator text =
    (output : List ℕ) (operator : MarkerOperator) → IsOperator (chars text) output operator → ⊥

-- the characters do not begin with two values and an operator between them
abbrev pub HasNoSides : List ℕ → Type 0
HasNoSides input = (output : List ℕ) (left right : Value) (operator : MarkerOperator)
    → Sides input output left operator right → ⊥

-- it begins with no white space
abbrev pub HasNoSpace : List ℕ → Type 0
HasNoSpace text = after_space (chars text) ≡ chars text

-- a letter of `in`
pub data IsLetterOfIn : ℕ → Type 0 where
  first_letter : IsLetterOfIn 105
  last_letter : IsLetterOfIn 110

-- An opening character, the one that closes it, and the text after the first: no other quote
-- follows a quote. When a parenthesis is not closed is a matter of the grammar that has parentheses
-- (`Open`).
pub data IsUnclosed (Open : List ℕ → Type 0) : ℕ → ℕ → List ℕ → Type 0 where
  quotes : {quote : ℕ} {back : List ℕ} →
      IsQuote quote → after_run (NotQuote quote) (chars back) ≡ [] →
      IsUnclosed Open quote quote back
  parentheses : {back : List ℕ} → Open back → IsUnclosed Open 40 41 back

-- the text begins with the character, and the piece is all of it but its last character
pub record IsAllButLast (c : ℕ) (piece back : List ℕ) : Type 0 where
  pub others : List ℕ
  pub last : ℕ
  pub begins : piece ++ back ≡ encode_utf8 c ++ others
  pub ends : back ≡ encode_utf8 last

-- when a fault is true of a text: `piece` is at its place, and `back` is from there to the end of
-- the text
abbrev pub Finds : (List ℕ → Type 0) → FaultKind → List ℕ → List ℕ → Type 0
Finds Open ValueAtEnd piece back = piece ++ back ≡ []
Finds Open NoValue piece back = IsLongest KeyPart piece back × HasNoValue (piece ++ back)
Finds Open NoOperator piece back =
    IsLongest (operator_class (chars (piece ++ back))) piece back × HasNoOperator (piece ++ back)
Finds Open NotAtEnd piece back = piece ++ back ≡ []
Finds Open NoSpaceAfterNot piece back =
    (found : ℕ) × (piece ≡ encode_utf8 found) × (holds Space found ≡ false)
Finds Open (Unclosed closing) piece back =
    (opening : ℕ) × IsUnclosed Open opening closing back × (piece ≡ encode_utf8 opening)
Finds Open (MissingAtEnd awaited) piece back = (piece ++ back ≡ []) × IsLetterOfIn awaited
Finds Open (Missing awaited) piece back =
    (found : ℕ) × (piece ≡ encode_utf8 found) × (found ≢ awaited)
    × (IsLetterOfIn awaited ⊎ (awaited ≡ 41))
Finds Open (Unexpected c) piece back =
    IsAllButLast c piece back × HasNoSpace (piece ++ back) × NoKeyword (chars (piece ++ back))
Finds Open (Trailing c) piece back = IsAllButLast c piece back × HasNoSpace (piece ++ back)

-- the text has a fault of this kind
pub record IsFaultAt (Open : List ℕ → Type 0) (text : List ℕ) (kind : FaultKind)
    (piece : List ℕ) (left : ℕ) : Type 0 where
  pub place : IsPiece text piece left
  pub found : Finds Open kind piece place.back

-- the fault is one of this text
abbrev pub IsFault : (List ℕ → Type 0) → List ℕ → Fault → Type 0
IsFault Open text fault = IsFaultAt Open text fault.kind fault.place.piece.now fault.place.left

-- a fault of words, which have no parentheses
abbrev pub NoneOpen : List ℕ → Type 0
NoneOpen back = ⊥

abbrev pub IsWordFault : List ℕ → Fault → Type 0
IsWordFault = IsFault NoneOpen

-- the piece is at `start`, and the span is the piece, or the end of the text with the length 1
pub record IsSpanOf (text piece : List ℕ) (start len : ℕ) : Type 0 where
  pub stands : StandsAt text piece start
  pub span : IsSpan text start len
  pub covers : start < length text → len ≡ length piece

-- a message that a marker text may be refused with, and its span: one of the faults is true of the
-- text there, and says so
pub record IsMarkerFault (Open : List ℕ → Type 0) (text : List ℕ) (start len : ℕ)
    (message : List ℕ) : Type 0 where
  pub kind : FaultKind
  pub piece : List ℕ
  pub place : IsSpanOf text piece start len
  pub found : Finds Open kind piece place.stands.back
  pub said : message ≡ message_of kind piece

-- at this start, the fault of words is one of the text, with its length and message
abbrev pub IsTold : List ℕ → Fault → ℕ → Type 0
IsTold text fault start = IsMarkerFault NoneOpen text start (span_len fault.place)
    (message_of fault.kind fault.place.piece.now)
