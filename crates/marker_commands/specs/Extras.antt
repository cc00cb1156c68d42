-- The names of extras.
use Rattle.std.specs.Prelude.{ℕ, List, [], ◌∷◌, map}
use Rattle.std.specs.Borrow.{Bor}
use Rattle.pep508_names.specs.Name.{NormalizesTo}

-- each word is a name, and these are their normal forms (PEP 503)
pub data Names : List (List ℕ) → List (List ℕ) → Type 0 where
  no_more : Names [] []
  name : {word normal : List ℕ} {words names : List (List ℕ)}
      → NormalizesTo word normal → Names words names → Names (word ∷ words) (normal ∷ names)

-- the bytes of each word
abbrev pub bytes_of : List (Bor (List ℕ)) → List (List ℕ)
bytes_of words = map (λ word. word.now) words
