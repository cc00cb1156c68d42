-- The text of a specifier does not change if white space is removed, with or without a space after
-- it.
use Rattle.std.proofs.Common.{◌≡◌, ℕ, ◌<◌, true, List, [], ◌∷◌, ◌++◌, refl, ap, arith}
use Rattle.std.specs.List.{list_all}
use Rattle.std.specs.Str.{IsAscii, drop_trailing_whitespace, skip_leading_whitespace, trim, trim_end, trim_start}
use Rattle.std.proofs.lemmas.Bool.{and_parts}
use Rattle.std.proofs.lemmas.Str.{chars-IsAscii, encodes-IsAscii, IsAscii-append}
use Rattle.std.proofs.lemmas.Str.Ascii.{IsAscii-nil}
use Rattle.pep440_version.specs.Plain.{IsPlainByte}
use Rattle.pep440_specifier.specs.Text.{is_specifier_byte}
use Rattle.pep440_specifier.proofs.ReadBack.{byte-is_plain}

abbrev pub IsPlain : List ℕ → Type 0
IsPlain t = list_all is_specifier_byte t ≡ true

pub plain-first : (b : ℕ) (t : List ℕ) → IsPlain (b ∷ t) → IsPlainByte b × IsPlain t
plain-first b t h =
    let parts = and_parts (is_specifier_byte b) (list_all is_specifier_byte t) h in
    (byte-is_plain b parts.0, parts.1)

pub ascii-cons : (b : ℕ) (t : List ℕ) → b < 128 → IsAscii t → IsAscii (b ∷ t)
ascii-cons b t h1 h2 = grind arith

pub plain-ascii : (t : List ℕ) → IsPlain t → IsAscii t
plain-ascii [] h = IsAscii-nil
plain-ascii (b ∷ t) h = let k = plain-first b t h in ascii-cons b t k.0.ascii (plain-ascii t k.1)

pub spaced-ascii : (t : List ℕ) → IsAscii t → IsAscii (t ++ (32 ∷ []))
spaced-ascii t h = IsAscii-append t (32 ∷ []) h (ascii-cons 32 [] (omega arith) IsAscii-nil)

plain-start : (t : List ℕ) → IsPlain t → skip_leading_whitespace t ≡ t
plain-start [] h = refl
plain-start (b ∷ t) h = rw (plain-first b t h).0.no_space refl

plain-end : (t : List ℕ) → IsPlain t → drop_trailing_whitespace t ≡ t
plain-end [] h = refl
plain-end (b ∷ t) h = let k = plain-first b t h in rw k.0.no_space (ap (λ (z : List ℕ). b ∷ z) (plain-end t k.1))

pub plain-trim : (t : List ℕ) → IsPlain t → trim t ≡ t
unfolding trim_start trim_end
plain-trim t h =
    let ascii = plain-ascii t h in
    let chars = chars-IsAscii t ascii in
    let bytes = encodes-IsAscii t ascii in
    rw (chars, plain-start t h, bytes, chars, plain-end t h, bytes) refl

spaced-end : (t : List ℕ) → IsPlain t → drop_trailing_whitespace (t ++ (32 ∷ [])) ≡ t
spaced-end [] h = refl
spaced-end (b ∷ t) h = let k = plain-first b t h in rw k.0.no_space (ap (λ (z : List ℕ). b ∷ z) (spaced-end t k.1))

spaced-start : (b : ℕ) (t : List ℕ) → IsPlain (b ∷ t) → skip_leading_whitespace ((b ∷ t) ++ (32 ∷ [])) ≡ (b ∷ t) ++ (32 ∷ [])
spaced-start b t h = rw (plain-first b t h).0.no_space refl

-- a plain text and one space
pub plain-spaced : (b : ℕ) (t : List ℕ) → IsPlain (b ∷ t) → trim ((b ∷ t) ++ (32 ∷ [])) ≡ b ∷ t
unfolding trim_start trim_end
plain-spaced b t h =
    let ascii = plain-ascii (b ∷ t) h in
    let bytes = encodes-IsAscii (b ∷ t) ascii in
    let wide = spaced-ascii (b ∷ t) ascii in
    let wide_chars = chars-IsAscii ((b ∷ t) ++ (32 ∷ [])) wide in
    let wide_bytes = encodes-IsAscii ((b ∷ t) ++ (32 ∷ [])) wide in
    rw (wide_chars, spaced-start b t h, wide_bytes, wide_chars, spaced-end (b ∷ t) h, bytes) refl
