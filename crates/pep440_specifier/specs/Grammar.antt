-- The texts of version specifiers (PEP 440, "Version specifiers").
use Rattle.std.specs.Prelude.{◌≡◌, ◌==◌, ◌||◌, ℕ, Bool, false, List, [], ◌∷◌, ◌++◌}
use Rattle.std.specs.Str.{trim}
use Rattle.pep440_version.specs.Grammar.{IsPatternText}
use Rattle.pep440_version.specs.Parts.{Parts}
use Rattle.pep440_specifier.specs.declared.operator.Operator.{Operator}
use Rattle.pep440_specifier.specs.Operator.{is_star, operator_text}
use Rattle.pep440_specifier.specs.Specifier.{Makes, Specifier}

-- `<`, `=`, `>`, `!` or `~`, the characters of operators
abbrev pub is_operator_byte : ℕ → Bool
is_operator_byte b = b == 60 || (b == 61 || (b == 62 || (b == 33 || b == 126)))

abbrev pub begins_operator : List ℕ → Bool
begins_operator [] = false
begins_operator (b ∷ rest) = is_operator_byte b

-- an operator, followed by nothing that would make it longer
pub record IsOperatorBefore (text : List ℕ) (operator : Operator) (rest : List ℕ) : Type 0 where
  pub joined : text ≡ operator_text operator ++ rest
  pub written : is_star operator ≡ false
  pub longest : begins_operator rest ≡ false

-- an operator and a pattern that make a specifier; Unicode's white space around each of them is
-- dropped
pub data IsSpecifierText (text : List ℕ) (s : Specifier) : Type 0 where
  specifier : {operator : Operator} {rest : List ℕ} {v : Parts} {star : Bool}
      → IsOperatorBefore (trim text) operator rest → IsPatternText rest v star
      → Makes operator v star s → IsSpecifierText text s
