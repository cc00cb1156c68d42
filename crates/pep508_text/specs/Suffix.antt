-- What is left of a text, and places in a text. Texts are lists of bytes, and lengths count bytes.
use Rattle.std.specs.Prelude.{◌≡◌, ℕ, ◌+◌, ◌<◌, ◌==◌, List, ◌++◌, length, if◌then◌else◌, IsUtf8}
use Rattle.std.specs.Str.{IsCharBoundary}
use Rattle.pep508_text.specs.declared.place.Place.{Place}

-- `rest` is at the end of `text`, and begins between two characters
pub record IsSuffix (text rest : List ℕ) : Type 0 where
  pub front : List ℕ
  pub joined : text ≡ front ++ rest
  pub utf8 : IsUtf8 rest

-- `piece` is in the text, from `left` bytes before its end on, and begins and ends between two
-- characters
pub record IsPiece (text piece : List ℕ) (left : ℕ) : Type 0 where
  pub back : List ℕ
  pub begins : IsSuffix text (piece ++ back)
  pub ends : IsUtf8 back
  pub length_is : length (piece ++ back) ≡ left

-- `piece` is in the text, from the byte `start` on
pub record StandsAt (text piece : List ℕ) (start : ℕ) : Type 0 where
  pub front : List ℕ
  pub back : List ℕ
  pub joined : text ≡ front ++ (piece ++ back)
  pub start_is : length front ≡ start

-- a span of the text: any number of whole characters, or the end with the length 1
pub data IsSpan (text : List ℕ) (start len : ℕ) : Type 0 where
  within : start < length text
      → IsCharBoundary text start → IsCharBoundary text (start + len) → IsSpan text start len
  at_end : start ≡ length text → len ≡ 1 → IsSpan text start len

-- the place is one of the text
abbrev pub IsPlaceIn : List ℕ → Place → Type 0
IsPlaceIn text place = IsPiece text place.piece.now place.left

-- the length of a place's span: that of its piece, or 1 at the end of the text
abbrev pub span_len : Place → ℕ
span_len place = if place.left == 0 then 1 else length place.piece.now
