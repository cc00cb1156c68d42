-- The end of a requirement: the text of its marker, or nothing. Texts are lists of characters.
use Rattle.std.specs.Prelude.{◌≡◌, ℕ, List, [], ◌∷◌, Option, None, Some}
use Rattle.pep508_text.specs.Run.{after_space}

-- 59 is `;`
pub data IsTail (rest : List ℕ) : Option (List ℕ) → Type 0 where
  unmarked : after_space rest ≡ [] → IsTail rest None
  marked : {marker : List ℕ} → after_space rest ≡ 59 ∷ marker → IsTail rest (Some marker)

-- no end of a requirement is left
abbrev pub HasNoTail : List ℕ → Type 0
HasNoTail rest = (marker : Option (List ℕ)) → ¬ IsTail rest marker

-- a rest has one reading as an end
abbrev pub TailIsUnique : Type 0
TailIsUnique = (rest : List ℕ) (marker other : Option (List ℕ))
    → IsTail rest marker → IsTail rest other → marker ≡ other
