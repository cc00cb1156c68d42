-- What the parts of every version keep: each number fits 64 bits, there is a release number, and
-- each segment of the local part is written as PEP 440 normalizes it.
use Rattle.std.specs.Prelude.{ℕ, ◌<◌, ◌^◌, ◌≡◌, ◌||◌, Bool, true, false, List, Option, None, Some, ⊤, length}
use Rattle.std.specs.Char.{is_ascii_digit, is_ascii_lowercase}
use Rattle.std.specs.List.{AllByRecursion, list_all}
use Rattle.pep440_version.specs.declared.version.Prerelease.{Prerelease}
use Rattle.pep440_version.specs.Parts.{Parts, Segment, word, number}

abbrev pub Fits : ℕ → Type 0
Fits n = n < 2 ^ 64

abbrev pub FitsIfSome : Option ℕ → Type 0
FitsIfSome None = ⊤
FitsIfSome (Some n) = Fits n

abbrev pub PrereleaseFits : Option Prerelease → Type 0
PrereleaseFits None = ⊤
PrereleaseFits (Some p) = Fits p.number

-- a letter of a local segment in lower case, or a digit
abbrev pub is_word_byte : ℕ → Bool
is_word_byte b = is_ascii_lowercase b || is_ascii_digit b

-- letters and digits, not only digits
abbrev pub IsWord : List ℕ → Type 0
IsWord t = (list_all is_word_byte t ≡ true) × (list_all is_ascii_digit t ≡ false)

abbrev pub SegmentIsValid : Segment → Type 0
SegmentIsValid (word t) = IsWord t
SegmentIsValid (number n) = Fits n

-- the numbers of a release
pub record AreNumbers (release : List ℕ) : Type 0 where
  pub some : 0 < length release
  pub fit : AllByRecursion Fits release

pub record IsValid (v : Parts) : Type 0 where
  pub epoch : Fits v.epoch
  pub some : 0 < length v.release
  pub release : AllByRecursion Fits v.release
  pub pre : PrereleaseFits v.pre
  pub post : FitsIfSome v.post
  pub dev : FitsIfSome v.dev
  pub locals : AllByRecursion SegmentIsValid v.locals
