-- The variables of markers, and their values.
use Rattle.std.specs.Prelude.{ℕ, Bool, List}
use Rattle.version_ranges.specs.Point.{Point}
use Rattle.pep440_version.specs.Parts.{Parts}
use Rattle.marker_words.specs.declared.key.TextVariable.{TextVariable}
use Rattle.marker_words.specs.declared.key.VersionVariable.{VersionVariable}

-- A valuation gives each version variable a point of the versions, each text variable a point of
-- the texts, ordered by their bytes, and each substring test and each extra a truth.
pub record Valuation : Type 0 where
  pub version : VersionVariable → Point Parts
  pub text : TextVariable → Point (List ℕ)
  -- whether the variable's value is part of a text
  pub inside : TextVariable → List ℕ → Bool
  -- whether the variable's value has a text as a part
  pub contains : TextVariable → List ℕ → Bool
  -- a valid extra, by its normal name
  pub extra : List ℕ → Bool
  -- an extra that is an invalid name, by its text
  pub arbitrary : List ℕ → Bool
