-- Words of ASCII: their bytes are their characters.
use Rattle.std.proofs.Common.{◌≡◌, ◌<◌, ℕ, Bool, true, List, [], ◌∷◌, IsUtf8, arith}
use Rattle.std.specs.Prelude.{nat_lt}
use Rattle.std.specs.List.{list_all}
use Rattle.std.specs.Str.{chars, IsAscii}
use Rattle.std.proofs.lemmas.Bool.{and_parts}
use Rattle.std.proofs.lemmas.Bool.Decides.{nat_tests}
use Rattle.std.proofs.lemmas.Str.{chars-IsAscii, IsUtf8-from_ascii}

pub record Word (w : List ℕ) : Type 0 where
  pub utf8 : IsUtf8 w
  pub characters : chars w ≡ w

abbrev pub is_ascii_byte : ℕ → Bool
is_ascii_byte b = nat_lt b 128

one_more : (b : ℕ) (t : List ℕ) → b < 128 → IsAscii t → IsAscii (b ∷ t)
one_more b t h1 h2 = grind arith

below : (b : ℕ) → is_ascii_byte b ≡ true → b < 128
below b h = grind (arith, nat_tests)

all_ascii : (t : List ℕ) → list_all is_ascii_byte t ≡ true → IsAscii t
all_ascii [] h = λ i. omega arith
all_ascii (b ∷ t) h = let q = and_parts (is_ascii_byte b) (list_all is_ascii_byte t) h in one_more b t (below b q.0) (all_ascii t q.1)

pub ascii_word : (w : List ℕ) → list_all is_ascii_byte w ≡ true → Word w
ascii_word w h = let a = all_ascii w h in record { utf8 = IsUtf8-from_ascii w a; characters = chars-IsAscii w a }
