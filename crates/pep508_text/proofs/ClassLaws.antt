-- Classes at the characters of ASCII.
use Rattle.std.proofs.Common.{◌≡◌, ℕ, ◌<◌, refl}
use Rattle.std.specs.Bool.{beq}
use Rattle.std.specs.Char.{is_ascii_alphabetic}
use Rattle.unicode.proofs.Facts.{Stepped-below, same_from_beq}
use Rattle.unicode.specs.Binary.{is_alphabetic}
use Rattle.unicode.proofs.BinaryLemmas.{is_alphabetic_stepped}
use Rattle.unicode.proofs.DerivedComputing.{ucd_derived}
use Rattle.pep508_text.specs.Class.{holds}
use Rattle.pep508_text.specs.declared.classes.Class.TheVariants.{Alphabetic}

-- the letters of ASCII are its alphabetic characters
pub alphabetic_ascii : (c : ℕ) → c < 128 → holds Alphabetic c ≡ is_ascii_alphabetic c
unfolding ucd_derived
alphabetic_ascii c h =
    same_from_beq _ _ (Stepped-below is_alphabetic is_alphabetic_stepped (λ x v. beq v (is_ascii_alphabetic x)) 128 refl c h)
