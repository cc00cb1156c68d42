-- The text of a specifier.
use Rattle.std.specs.Prelude.{ℕ, Bool, ◌||◌, ◌==◌, List, [], ◌++◌, codes, if◌then◌else◌}
use Rattle.pep440_version.specs.Plain.{is_version_byte}
use Rattle.pep440_version.specs.Text.{version_text}
use Rattle.pep440_specifier.specs.Grammar.{is_operator_byte}
use Rattle.pep440_specifier.specs.Operator.{is_star, operator_text}
use Rattle.pep440_specifier.specs.Specifier.{Specifier}

-- the operator, the version, and `.*` for a star
abbrev pub specifier_text : Specifier → List ℕ
specifier_text s = operator_text s.operator ++
    (version_text s.version ++ (if is_star s.operator then codes ".*" else []))

-- a character of versions or of operators, or `*` (42)
abbrev pub is_specifier_byte : ℕ → Bool
is_specifier_byte b = is_version_byte b || is_operator_byte b || b == 42
