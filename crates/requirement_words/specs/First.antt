-- The first character of a text.
use Rattle.std.specs.Prelude.{◌≡◌, ℕ, List, ◌∷◌, ◌++◌, encode_utf8}
use Rattle.std.specs.Str.{chars}
use Rattle.pep508_text.specs.Suffix.{IsSuffix}

-- the text is this character and the rest
pub record BeginsWith (text : List ℕ) (c : ℕ) (rest : List ℕ) : Type 0 where
  pub bytes : text ≡ encode_utf8 c ++ rest
  pub characters : chars text ≡ c ∷ chars rest
  pub suffix : IsSuffix text rest
