-- What a call that reads a text gives.
use Rattle.std.specs.Prelude.{◌≡◌, Bool, Result, Ok, Err, ℕ, List}
use Rattle.pep440_version.specs.declared.pattern.VersionPattern.{VersionPattern}
use Rattle.pep440_version.specs.Parts.{Parts}
use Rattle.refusal.specs.declared.Refusal.{Refusal}
use Rattle.refusal.specs.declared.Refusal.TheVariants.{OutOfMemory}
use Rattle.pep440_version.specs.Grammar.{IsPatternText}

-- this value, or out of memory
abbrev pub IsGivenUnlessMemory : {T E : Type 0} → Result T (Refusal E) → T → Type 0
IsGivenUnlessMemory (Ok x) v = x ≡ v
IsGivenUnlessMemory (Err e) v = e ≡ OutOfMemory

-- this pattern, or out of memory
abbrev pub IsPatternGivenUnlessMemory :
    {E : Type 0} → Result VersionPattern (Refusal E) → Parts → Bool → Type 0
IsPatternGivenUnlessMemory (Ok p) v star = (p.version ≡ v) × (p.wildcard ≡ star)
IsPatternGivenUnlessMemory (Err e) v star = e ≡ OutOfMemory

-- the text denotes this pattern
abbrev pub Denotes : List ℕ → VersionPattern → Type 0
Denotes text p = IsPatternText text p.version p.wildcard

-- the text denotes no pattern
abbrev pub DenotesNone : List ℕ → Type 0
DenotesNone text = (v : Parts) (star : Bool) → ¬ IsPatternText text v star

-- what the text denotes is given, or out of memory
abbrev pub GivesUnlessMemory :
    {E : Type 0} → List ℕ → Result VersionPattern (Refusal E) → Type 0
GivesUnlessMemory text result = (v : Parts) (star : Bool) → IsPatternText text v star
    → IsPatternGivenUnlessMemory result v star
