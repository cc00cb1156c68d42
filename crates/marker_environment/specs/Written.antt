-- Versions with the texts that they were read from. Texts are bytes.
use Rattle.std.specs.Prelude.{◌≡◌, ℕ, List, Result, Ok, Err, string_bytes, Bool, true}
use Rattle.refusal.specs.declared.Refusal.{Refusal}
use Rattle.refusal.specs.declared.Refusal.TheVariants.{OutOfMemory}
use Rattle.pep440_version.specs.Parts.{Parts}
use Rattle.pep440_version.specs.Grammar.{IsVersionText}
use Rattle.pep440_version.specs.Text.{version_text}
use Rattle.marker_environment.specs.declared.string_version.StringVersion.{StringVersion}

-- a version as it is written
pub record Written : Type 0 where
  pub string : List ℕ
  pub version : Parts

abbrev pub written : StringVersion → Written
written s = record { string = string_bytes s.string; version = s.version }

-- a version by its normal text (PEP 440, "Normalization")
abbrev pub normal : Parts → Written
normal v = record { string = version_text v; version = v }

-- the text says this version, and is kept as it is
pub record Says (text : List ℕ) (w : Written) : Type 0 where
  pub string : w.string ≡ text
  pub version : IsVersionText text w.version

-- this text and version, or out of memory
abbrev pub IsSaidUnlessMemory : {E : Type 0} →
    Result StringVersion (Refusal E) → List ℕ → Parts → Type 0
IsSaidUnlessMemory (Ok s) text v = written s ≡ record { string = text; version = v }
IsSaidUnlessMemory (Err e) text v = e ≡ OutOfMemory

-- the version is kept with this text, which says it
abbrev pub SaysVersion : List ℕ → StringVersion → Type 0
SaysVersion text s = Says text (written s)

-- the text with the version that it says, or out of memory
abbrev pub SaysUnlessMemory : {E : Type 0} → List ℕ → Result StringVersion (Refusal E) → Type 0
SaysUnlessMemory text result =
    (v : Parts) → IsVersionText text v → IsSaidUnlessMemory result text v

-- two versions are written with the same text and parts
abbrev pub AreWrittenAlike : StringVersion → StringVersion → Type 0
AreWrittenAlike s t = written s ≡ written t

-- what is alike is equal
abbrev pub AreEqualIf : {X : Type 0} → (X → X → Type 0) → (X → X → Bool) → Type 0
AreEqualIf {X} Alike eq = (x y : X) → Alike x y → eq x y ≡ true
