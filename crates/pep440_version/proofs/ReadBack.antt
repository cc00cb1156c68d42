-- A text of the grammar has no white space and no capital, so it is parsed as it is.
use Rattle.std.proofs.Common.{◌≡◌, ◌==◌, ◌<◌, ◌++◌, ℕ, Bool, true, false, not, ◌&&◌, nat_lt, Option, List, [], ◌∷◌, map, refl, ap, arith, inl, inr}
use Rattle.std.proofs.lemmas.Bool.{cases_Bool, eqb-true}
use Rattle.std.proofs.lemmas.Bool.Decides.{nat_tests}
use Rattle.std.proofs.lemmas.List.Folds.{list_all-append}
use Rattle.std.proofs.lemmas.Str.{chars-IsAscii, encodes-IsAscii}
use Rattle.std.specs.Char.{is_ascii_digit, is_whitespace, to_ascii_lowercase}
use Rattle.std.specs.List.{list_all}
use Rattle.std.specs.Str.{IsAscii, drop_trailing_whitespace, skip_leading_whitespace, trim, trim_end, trim_start}
use Rattle.pep440_version.specs.declared.version.Prerelease.{Prerelease}
use Rattle.pep440_version.specs.declared.version.PrereleaseKind.{PrereleaseKind}
use Rattle.pep440_version.specs.Parts.{Parts, Segment}
use Rattle.pep440_version.specs.Valid.{is_word_byte}
use Rattle.pep440_version.specs.Grammar.{IsDev, IsEpoch, IsLocal, IsMark, IsNumber, IsNumbering, IsPattern, IsPatternText, IsPost, IsPostWord, IsPre, IsPreWord, IsRelease, IsSegment, IsSegments, IsSeparator, IsVersion, IsVersionText, before, last, last_segment, segment_before}

-- no white space, and not changed by a change to lower case
abbrev pub is_text_byte : ℕ → Bool
is_text_byte b = nat_lt b 128 && (not (is_whitespace b) && (to_ascii_lowercase b == b))

abbrev pub IsPlain : List ℕ → Type 0
IsPlain t = list_all is_text_byte t ≡ true

record TextByte (b : ℕ) : Type 0 where
  ascii : b < 128
  dark : is_whitespace b ≡ false
  lower : to_ascii_lowercase b ≡ b

text_byte : (b : ℕ) → is_text_byte b ≡ true → TextByte b
text_byte b h =
    let all : (nat_lt b 128 ≡ true) × (is_whitespace b ≡ false) × ((to_ascii_lowercase b == b) ≡ true) = split (nat_lt b 128) (is_whitespace b) (to_ascii_lowercase b == b) h in
    record { ascii = grind (arith, nat_tests, all.0); dark = all.1; lower = eqb-true (to_ascii_lowercase b) b all.2 }
  where
    split : (p q r : Bool) → (p && (not q && r)) ≡ true → (p ≡ true) × (q ≡ false) × (r ≡ true)
    split true false true e = (refl, refl, refl)
    split true false false e = cc e
    split true true r e = cc e
    split false q r e = cc e

both : (s t : List ℕ) → IsPlain s → IsPlain t → IsPlain (s ++ t)
both s t h k = rw (list_all-append is_text_byte s t, h, k) refl

word_byte-plain : (b : ℕ) → is_word_byte b ≡ true → is_text_byte b ≡ true
word_byte-plain b h = grind (arith, nat_tests)

digit-plain : (b : ℕ) → is_ascii_digit b ≡ true → is_text_byte b ≡ true
digit-plain b h = grind (arith, nat_tests)

pub all-plain : (test : ℕ → Bool) → ((b : ℕ) → test b ≡ true → is_text_byte b ≡ true) → (t : List ℕ) → list_all test t ≡ true → IsPlain t
all-plain test f [] h = refl
all-plain test f (b ∷ t) h = grind (arith, cases_Bool, all-plain test f t)

number-plain : {ds : List ℕ} {n : ℕ} → IsNumber ds n → IsPlain ds
number-plain {ds} num = all-plain is_ascii_digit digit-plain ds num.digits

separator-plain : {s : List ℕ} → IsSeparator s → IsPlain s
separator-plain h1 = grind arith

numbering-plain : {t : List ℕ} {n : ℕ} {b : Bool} → IsNumbering t n b → IsPlain t
numbering-plain h1 = grind (arith, both, separator-plain, number-plain)

mark-plain : {m : List ℕ} → IsMark m → IsPlain m
mark-plain h1 = grind arith

epoch-plain : {e : List ℕ} {n : ℕ} → IsEpoch e n → IsPlain e
epoch-plain h1 = grind (arith, both, number-plain)

release-plain : {r ns : List ℕ} → IsRelease r ns → IsPlain r
release-plain (last num) = number-plain num
release-plain (before {ds = ds} {t = t} num more) = both ds (46 ∷ t) (number-plain num) (release-plain more)

pre_word-plain : {w : List ℕ} {kind : PrereleaseKind} → IsPreWord w kind → IsPlain w
pre_word-plain h1 = grind arith

pre-plain : {p : List ℕ} {o : Option Prerelease} {b : Bool} → IsPre p o b → IsPlain p
pre-plain h1 = grind (arith, both, separator-plain, pre_word-plain, numbering-plain)

post_word-plain : {w : List ℕ} → IsPostWord w → IsPlain w
post_word-plain h1 = grind arith

post-plain : {after : Bool} {q : List ℕ} {o : Option ℕ} → IsPost after q o → IsPlain q
post-plain h1 = grind (arith, both, separator-plain, post_word-plain, numbering-plain, number-plain)

dev-plain : {d : List ℕ} {o : Option ℕ} → IsDev d o → IsPlain d
dev-plain h1 = grind (arith, both, separator-plain, numbering-plain)

segment-plain : {t : List ℕ} {s : Segment} → IsSegment t s → IsPlain t
segment-plain h1 = grind (arith, number-plain, all-plain, word_byte-plain)

segments-plain : {t : List ℕ} {ss : List Segment} → IsSegments t ss → IsPlain t
segments-plain (last_segment h) = segment-plain h
segments-plain (segment_before {t = t} {p = p} {u = u} h sep some more) = both t (p ++ u) (segment-plain h) (both p u (separator-plain sep) (segments-plain more))

local-plain : {l : List ℕ} {ss : List Segment} → IsLocal l ss → IsPlain l
local-plain h1 = grind (arith, segments-plain)

version-plain : (t : List ℕ) (v : Parts) → IsVersion t v → IsPlain t
version-plain t v h1 = grind (arith, both, mark-plain, epoch-plain, release-plain, pre-plain, post-plain, dev-plain, local-plain)

-- ---- a plain text is not changed

plain-first : (b : ℕ) (t : List ℕ) → IsPlain (b ∷ t) → TextByte b × IsPlain t
plain-first b t h = elim (cases_Bool (is_text_byte b)) [
  | inl e ↦ (text_byte b e, rw e at h)
  | inr e ↦ cc (rw e at h)
]

ascii-cons : (b : ℕ) (t : List ℕ) → b < 128 → IsAscii t → IsAscii (b ∷ t)
ascii-cons b t h1 h2 = grind arith

plain-ascii : (t : List ℕ) → IsPlain t → IsAscii t
plain-ascii [] h = λ i. omega arith
plain-ascii (b ∷ t) h = let k = plain-first b t h in ascii-cons b t k.0.ascii (plain-ascii t k.1)

plain-start : (t : List ℕ) → IsPlain t → skip_leading_whitespace t ≡ t
plain-start [] h = refl
plain-start (b ∷ t) h = rw (plain-first b t h).0.dark refl

plain-end : (t : List ℕ) → IsPlain t → drop_trailing_whitespace t ≡ t
plain-end [] h = refl
plain-end (b ∷ t) h = let k = plain-first b t h in rw k.0.dark (ap (λ (z : List ℕ). b ∷ z) (plain-end t k.1))

plain-lower : (t : List ℕ) → IsPlain t → map to_ascii_lowercase t ≡ t
plain-lower [] h = refl
plain-lower (b ∷ t) h = let k = plain-first b t h in λ i. k.0.lower i ∷ plain-lower t k.1 i

pub plain-trim : (t : List ℕ) → IsPlain t → trim t ≡ t
unfolding trim_start trim_end
plain-trim t h =
    let ascii = plain-ascii t h in
    let chars = chars-IsAscii t ascii in
    let bytes = encodes-IsAscii t ascii in
    rw (chars, plain-start t h, bytes, chars, plain-end t h, bytes) refl

-- a text of the grammar is parsed as it is
pub version-text : (t : List ℕ) (v : Parts) → IsVersion t v → IsVersionText t v
version-text t v h1 = grind (arith, version-plain, map, plain-trim, plain-lower)

pattern-plain : (t : List ℕ) (v : Parts) (star : Bool) → IsPattern t v star → IsPlain t
pattern-plain t v star h1 = grind (arith, version-plain, both, mark-plain, epoch-plain, release-plain)

pub pattern-text : (t : List ℕ) (v : Parts) (star : Bool) → IsPattern t v star → IsPatternText t v star
pattern-text t v star h1 = grind (arith, pattern-plain, map, plain-trim, plain-lower)
