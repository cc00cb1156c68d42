-- The parts of a version (PEP 440, "Version scheme"), as its text writes them.
use Rattle.std.specs.Prelude.{ℕ, List, [], Option, None}
use Rattle.pep440_version.specs.declared.version.Prerelease.{Prerelease}

-- a segment of the local part: a word of these bytes, or a number
pub data Segment : Type 0 where
  word : List ℕ → Segment
  number : ℕ → Segment

-- what a contract sees of a version; two versions are `≡` if they are written alike
pub record Parts : Type 0 where
  pub epoch : ℕ
  pub release : List ℕ
  pub pre : Option Prerelease
  pub post : Option ℕ
  pub dev : Option ℕ
  pub locals : List Segment

-- a version with only release numbers
abbrev pub release_only : List ℕ → Parts
release_only numbers =
    record { epoch = 0; release = numbers; pre = None; post = None; dev = None; locals = [] }
