-- What the laws of versions say.
use Rattle.std.specs.Prelude.{◌≡◌, ℕ, Bool, true, List}
use Rattle.pep440_version.specs.Grammar.{IsPatternText, starred_parts}
use Rattle.pep440_version.specs.Parts.{Parts}
use Rattle.pep440_version.specs.Text.{starred_text}
use Rattle.pep440_version.specs.Valid.{IsValid}

-- the text denotes at most one pattern
abbrev pub SaysOnePattern : List ℕ → Type 0
SaysOnePattern text = (v w : Parts) (star end : Bool)
    → IsPatternText text v star → IsPatternText text w end → (v ≡ w) × (star ≡ end)

-- the normal text of a valid epoch and release, with `.*` after it, denotes them with a star
abbrev pub StarredTextReadsBack : ℕ → List ℕ → Type 0
StarredTextReadsBack epoch release = IsValid (starred_parts epoch release)
    → IsPatternText (starred_text epoch release) (starred_parts epoch release) true
