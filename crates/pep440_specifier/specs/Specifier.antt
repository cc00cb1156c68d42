-- Version specifiers (PEP 440, "Version specifiers").
use Rattle.std.specs.Prelude.{◌≡◌, ◌≤◌, Bool, true, false, [], length, Some}
use Rattle.pep440_version.specs.Parts.{Parts, release_only}
use Rattle.pep440_version.specs.Valid.{IsValid}
use Rattle.pep440_specifier.specs.declared.operator.Operator.{Operator}
use Rattle.pep440_specifier.specs.declared.operator.Operator.TheVariants.{TildeEqual}
use Rattle.pep440_specifier.specs.Operator.{is_star, takes_local, before_pattern}

-- what a contract sees of a specifier; the version is the release before `.*` if the operator is a
-- star
pub record Specifier : Type 0 where
  pub operator : Operator
  pub version : Parts

-- a version with only an epoch and a release
abbrev pub IsReleaseAlone : Parts → Type 0
IsReleaseAlone v = v ≡ record (release_only v.release) { epoch = v.epoch }

-- the operator and the version go together
pub record IsAllowed (s : Specifier) : Type 0 where
  -- a star follows only an epoch and a release
  pub star : is_star s.operator ≡ true → IsReleaseAlone s.version
  -- a compatible release has a number to raise and one to leave open
  pub compatible : s.operator ≡ TildeEqual → 2 ≤ length s.version.release
  -- only equality has a local part
  pub local : takes_local s.operator ≡ false → s.version.locals ≡ []

-- an operator and a pattern, that is a version and whether `.*` follows it, make this specifier
pub record Makes (operator : Operator) (v : Parts) (star : Bool) (s : Specifier) : Type 0 where
  pub written : before_pattern operator star ≡ Some s.operator
  pub same : s.version ≡ v
  pub allowed : IsAllowed s

-- a specifier whose operator and version go together, and whose version has valid parts
pub record IsWellFormed (s : Specifier) : Type 0 where
  pub allowed : IsAllowed s
  pub valid : IsValid s.version
