-- What is found in a list of version specifiers.
use Rattle.std.specs.Prelude.{◌≡◌, ◌≢◌, ℕ, List, [], ◌∷◌}
use Rattle.std.specs.Str.{chars}
use Rattle.pep440_specifier.specs.Specifier.{Specifier}
use Rattle.requirement_findings.specs.declared.name.FindingName.{FindingName}
use Rattle.requirement_findings.specs.declared.name.FindingName.TheVariants.{InvalidSpecifiers}
use Rattle.requirement_words.specs.Specifiers.{HasNoSpecifiers, IsSpecifiers}

-- Nothing is found in specifiers with commas between them, or in no text; otherwise the text does
-- not begin with specifiers, or more text follows them. Specifiers end before a `;` (59).
pub data FindsInSpecifiers (text : List ℕ) : List FindingName → Type 0 where
  empty : text ≡ [] → FindsInSpecifiers text []
  valid : {set : List Specifier} → IsSpecifiers 59 (chars text) [] set → FindsInSpecifiers text []
  trailing : {rest : List ℕ} {set : List Specifier}
      → IsSpecifiers 59 (chars text) (chars rest) set
      → rest ≢ [] → FindsInSpecifiers text (InvalidSpecifiers ∷ [])
  invalid : HasNoSpecifiers 59 (chars text) → FindsInSpecifiers text (InvalidSpecifiers ∷ [])
