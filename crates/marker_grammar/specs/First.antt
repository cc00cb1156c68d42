-- The first character of a text, as bytes.
use Rattle.std.specs.Prelude.{◌≡◌, ℕ, List, ◌++◌, encode_utf8}

abbrev pub BeginsWith : ℕ → List ℕ → Type 0
BeginsWith c text = (others : List ℕ) × (text ≡ encode_utf8 c ++ others)
