-- What is wrong with an operator and a version, or with a text, that are no specifier.
use Rattle.std.specs.Prelude.{◌≡◌, ◌≢◌, ◌<◌, ◌||◌, ℕ, Bool, true, false, List, [], ◌++◌, length, Option, None, Some, codes, string_bytes}
use Rattle.std.specs.Fmt.{◌++?◌}
use Rattle.std.specs.Str.{IsCharBoundary}
use Rattle.pep440_version.specs.Message.{expected_text, place_text}
use Rattle.pep440_version.specs.Parts.{Parts}
use Rattle.pep440_specifier.specs.declared.operator.Operator.{Operator}
use Rattle.pep440_specifier.specs.declared.operator.Operator.TheVariants.{TildeEqual}
use Rattle.pep440_specifier.specs.declared.place.Place.{Place}
use Rattle.pep440_specifier.specs.declared.error.SpecifierFault.{SpecifierFault}
use Rattle.pep440_specifier.specs.declared.error.SpecifierFault.TheVariants as fault
use Rattle.pep440_specifier.specs.declared.error.VersionSpecifierError.{VersionSpecifierError}
use Rattle.pep440_specifier.specs.Operator.{is_star, operator_text, starred, takes_local}
use Rattle.pep440_specifier.specs.Specifier.{IsReleaseAlone}

-- the text of a fault; what a version lacks is worded as for versions
abbrev pub fault_text : SpecifierFault → List ℕ
fault_text fault.Operator = codes "Expected one of `==`, `!=`, `<`, `<=`, `>`, `>=`, `~=` and `===`"
fault_text (fault.Version expected) = codes "Expected " ++ expected_text expected
fault_text (fault.NoStar operator) =
    codes "Expected a version without `.*` after `" ++ (operator_text operator ++ codes "`")
fault_text fault.ReleaseAlone = codes "Expected a release without a suffix before `.*`"
fault_text fault.SecondNumber = codes "Expected at least two release numbers after `~=`"
fault_text (fault.NoLocal operator) =
    codes "Expected a version without a local part after `" ++ (operator_text operator ++ codes "`")

-- the message of an error: what was expected, and what was found where, if a text was read
abbrev pub error_text : SpecifierFault → Option Place → Option (List ℕ)
error_text fault None = Some (fault_text fault)
error_text fault (Some place) =
    Some (fault_text fault ++ codes ", found ")
    ++? place_text (string_bytes place.text) place.offset

abbrev pub offset_of : Option Place → Option ℕ
offset_of None = None
offset_of (Some place) = Some place.offset

-- the error keeps this text
abbrev pub IsAt : Option Place → List ℕ → Type 0
IsAt None text = ⊥
IsAt (Some place) text = string_bytes place.text ≡ text

-- between two characters of the text that the error keeps
abbrev pub IsBetweenCharacters : Option Place → ℕ → Type 0
IsBetweenCharacters None offset = ⊥
IsBetweenCharacters (Some place) offset = IsCharBoundary (string_bytes place.text) offset

abbrev pub IsToldOf : VersionSpecifierError → List ℕ → Type 0
IsToldOf error text = IsAt error.place text

-- what is wrong with an operator and a pattern, that is a version and whether `.*` follows it
abbrev pub IsFault : SpecifierFault → Operator → Parts → Bool → Type 0
IsFault fault.Operator operator v star = ⊥
IsFault (fault.Version expected) operator v star = ⊥
IsFault (fault.NoStar told) operator v star =
    (told ≡ operator) × (star ≡ true) × (starred operator ≡ None)
IsFault fault.ReleaseAlone operator v star =
    ((is_star operator || star) ≡ true) × (IsReleaseAlone v → ⊥)
IsFault fault.SecondNumber operator v star = (operator ≡ TildeEqual) × (length v.release < 2)
IsFault (fault.NoLocal told) operator v star =
    (told ≡ operator) × (is_star operator ≡ false) × (takes_local operator ≡ false) ×
    (v.locals ≢ [])
