-- How bytes are split into lines: a line ends only at a line feed, and a last line without one
-- counts if it is not empty.
use Rattle.std.specs.Prelude.{◌≡◌, ◌≢◌, ℕ, List, [], ◌∷◌, ◌++◌, Option, All, ◌⊎◌}
use Rattle.std.specs.List.{flat_map}
use Rattle.std.specs.Io.KnownBytes.{IsAtEnd}

-- no byte is a line feed
abbrev pub HasNoFeed : List ℕ → Type 0
HasNoFeed bytes = All (λ b. b ≢ 10) bytes

-- a line with the line feed that ends it
abbrev pub with_feed : List ℕ → List ℕ
with_feed line = line ++ (10 ∷ [])

-- The bytes are these lines, each with its line feed, and a rest without one.
pub record WholeLines (bytes : List ℕ) (lines : List (List ℕ)) (rest : List ℕ) : Type 0 where
  pub parts : bytes ≡ flat_map with_feed lines ++ rest
  pub whole : All HasNoFeed lines
  pub unended : HasNoFeed rest

-- the lines of an input that ends here
pub data Lines : List ℕ → List (List ℕ) → Type 0 where
  ended : {input : List ℕ} {lines : List (List ℕ)} → WholeLines input lines [] → Lines input lines
  unended : {input last : List ℕ} {lines : List (List ℕ)}
      → WholeLines input lines last → last ≢ [] → Lines input (lines ++ (last ∷ []))

-- the lines of the input read so far; a last line without a line feed only if no byte is left
abbrev pub LinesSoFar : Option (List ℕ) → List ℕ → List (List ℕ) → Type 0
LinesSoFar left input lines =
    ((rest : List ℕ) × WholeLines input lines rest) ⊎ (IsAtEnd left × Lines input lines)
