-- The normal text of a version has only lower-case letters, digits, `!`, `+` and `.`.
use Rattle.std.proofs.Common.{◌≡◌, ◌++◌, ℕ, Bool, true, Option, List, [], ◌∷◌, refl, arith}
use Rattle.std.proofs.lemmas.Bool.{and_from, and_parts, cases_Bool}
use Rattle.std.proofs.lemmas.Bool.Decides.{nat_tests}
use Rattle.std.proofs.lemmas.List.Folds.{list_all-append}
use Rattle.std.specs.Char.{is_ascii_digit}
use Rattle.std.specs.Fmt.{decimal}
use Rattle.std.specs.List.{AllByRecursion, list_all}
use Rattle.pep440_version.specs.declared.version.Prerelease.{Prerelease}
use Rattle.pep440_version.specs.declared.version.PrereleaseKind.{PrereleaseKind}
use Rattle.pep440_version.specs.Parts.{Parts, Segment}
use Rattle.pep440_version.specs.Plain.{IsPlainByte, is_version_byte}
use Rattle.pep440_version.specs.Text.{dev_text, dotted, dotted_segments, epoch_text, kind_text, local_text, post_text, pre_text, release_text, segment_text, suffix_text, version_text}
use Rattle.pep440_version.specs.Valid.{Fits, FitsIfSome, IsValid, PrereleaseFits, SegmentIsValid, is_word_byte}
use Rattle.pep440_version.proofs.Text.{decimal-number}

-- what each byte passes
abbrev IsPlain : List ℕ → Type 0
IsPlain t = list_all is_version_byte t ≡ true

both : (s t : List ℕ) → IsPlain s → IsPlain t → IsPlain (s ++ t)
both s t h k = rw (list_all-append is_version_byte s t, h, k) refl

digit-plain : (b : ℕ) → is_ascii_digit b ≡ true → is_version_byte b ≡ true
digit-plain b h = grind (arith, nat_tests)

word_byte-plain : (b : ℕ) → is_word_byte b ≡ true → is_version_byte b ≡ true
word_byte-plain b h = grind (arith, nat_tests)

all-plain : (test : ℕ → Bool) → ((b : ℕ) → test b ≡ true → is_version_byte b ≡ true) → (t : List ℕ) → list_all test t ≡ true → IsPlain t
all-plain test f [] h = refl
all-plain test f (b ∷ t) h = let q = and_parts (test b) (list_all test t) h in and_from _ _ (f b q.0) (all-plain test f t q.1)

number-plain : (n : ℕ) → Fits n → IsPlain (decimal n)
number-plain n h = all-plain is_ascii_digit digit-plain (decimal n) (decimal-number n h).digits

epoch-plain : (e : ℕ) → Fits e → IsPlain (epoch_text e)
epoch-plain e h1 = grind (arith, cases_Bool, both, number-plain)

dotted-plain : (ns : List ℕ) → AllByRecursion Fits ns → IsPlain (dotted ns)
dotted-plain [] all = refl
dotted-plain (n ∷ ns) all = both (46 ∷ decimal n) (dotted ns) (number-plain n all.0) (dotted-plain ns all.1)

release-plain : (ns : List ℕ) → AllByRecursion Fits ns → IsPlain (release_text ns)
release-plain ns h1 = grind (arith, both, number-plain, dotted-plain)

kind-plain : (kind : PrereleaseKind) → IsPlain (kind_text kind)
kind-plain kind = grind arith

pre-plain : (p : Option Prerelease) → PrereleaseFits p → IsPlain (pre_text p)
pre-plain p h1 = grind (arith, both, kind-plain, number-plain)

post-plain : (o : Option ℕ) → FitsIfSome o → IsPlain (post_text o)
post-plain o h1 = grind (arith, number-plain)

dev-plain : (o : Option ℕ) → FitsIfSome o → IsPlain (dev_text o)
dev-plain o h1 = grind (arith, number-plain)

segment-plain : (s : Segment) → SegmentIsValid s → IsPlain (segment_text s)
segment-plain s h1 = grind (arith, all-plain, word_byte-plain, number-plain)

segments-plain : (ss : List Segment) → AllByRecursion SegmentIsValid ss → IsPlain (dotted_segments ss)
segments-plain [] all = refl
segments-plain (s ∷ ss) all = both (46 ∷ segment_text s) (dotted_segments ss) (segment-plain s all.0) (segments-plain ss all.1)

local-plain : (ss : List Segment) → AllByRecursion SegmentIsValid ss → IsPlain (local_text ss)
local-plain ss h1 = grind (arith, both, segment-plain, segments-plain)

pub text-plain : (v : Parts) → IsValid v → list_all is_version_byte (version_text v) ≡ true
unfolding version_text
text-plain v h =
    both (epoch_text v.epoch) _ (epoch-plain v.epoch h.epoch) (both (release_text v.release) _ (release-plain v.release h.release)
    (both (suffix_text v.pre v.post v.dev) (local_text v.locals)
    (both (pre_text v.pre) _ (pre-plain v.pre h.pre) (both (post_text v.post) (dev_text v.dev) (post-plain v.post h.post) (dev-plain v.dev h.dev)))
    (local-plain v.locals h.locals)))

-- such a byte is plain
pub byte-plain : (b : ℕ) → is_version_byte b ≡ true → IsPlainByte b
byte-plain b h = record {
  ascii = grind (arith, nat_tests);
  no_space = grind (arith, nat_tests);
  no_capital = grind (arith, nat_tests);
  no_double_quote = grind (arith, nat_tests);
  no_single_quote = grind (arith, nat_tests);
  no_comma = grind (arith, nat_tests);
  no_semicolon = grind (arith, nat_tests);
}
