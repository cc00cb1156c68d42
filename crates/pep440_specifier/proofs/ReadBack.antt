-- The text of a specifier parses back to that specifier.
use Rattle.std.proofs.Common.{◌≡◌, ◌==◌, ◌||◌, ℕ, Bool, true, false, Some, List, [], ◌∷◌, ◌++◌, refl, sym, ap, ◌∙◌, subst, append-nil, arith}
use Rattle.std.specs.Prelude.{codes, if◌then◌else◌}
use Rattle.std.specs.Char.{is_ascii_digit}
use Rattle.std.specs.List.{list_all}
use Rattle.std.specs.Str.{trim}
use Rattle.std.proofs.lemmas.Bool.{and_from, and_parts}
use Rattle.std.proofs.lemmas.Bool.Decides.{nat_tests}
use Rattle.std.proofs.lemmas.List.Folds.{list_all-append}
use Rattle.pep440_version.specs.Grammar.{IsEpoch, IsNumber, IsPattern, IsPatternText, IsRelease, IsVersion, epoch, no_epoch, plain, version}
use Rattle.pep440_version.specs.Parts.{Parts}
use Rattle.pep440_version.specs.Plain.{IsPlainByte, is_version_byte}
use Rattle.pep440_version.specs.Text.{version_text}
use Rattle.pep440_version.specs.Valid.{IsValid}
use Rattle.pep440_version.proofs.Plain.{text-plain}
use Rattle.pep440_version.proofs.ReadBack.{all-plain, is_text_byte, pattern-text, plain-trim}
use Rattle.pep440_version.proofs.Text.{star-text, valid-text}
use Rattle.pep440_specifier.specs.declared.operator.Operator.{Operator}
use Rattle.pep440_specifier.specs.declared.operator.Operator.TheVariants.{Equal, EqualStar, ExactEqual, NotEqual, NotEqualStar, TildeEqual, LessThan, LessThanEqual, GreaterThan, GreaterThanEqual}
use Rattle.pep440_specifier.specs.Grammar.{IsOperatorBefore, IsSpecifierText, begins_operator, is_operator_byte, specifier}
use Rattle.pep440_specifier.specs.Operator.{before_pattern, is_star, operator_text}
use Rattle.pep440_specifier.specs.Specifier.{IsReleaseAlone, IsWellFormed, Specifier}
use Rattle.pep440_specifier.specs.Text.{is_specifier_byte, specifier_text}

-- ---- the first character of a version

abbrev is_start : ℕ → Bool
is_start c = is_ascii_digit c || c == 118

abbrev begins : List ℕ → Bool
begins [] = false
begins (c ∷ cs) = is_start c

begins-append : (a b : List ℕ) → begins a ≡ true → begins (a ++ b) ≡ true
begins-append a b h1 = grind arith

start_other : (c : ℕ) → is_start c ≡ true → is_operator_byte c ≡ false
start_other c h = grind (arith, nat_tests)

number_begins : {ds : List ℕ} {n : ℕ} → IsNumber ds n → begins ds ≡ true
number_begins h1 = grind arith

release_begins : {r ns : List ℕ} → IsRelease r ns → begins r ≡ true
release_begins h1 = grind (arith, number_begins, begins-append)

epoch_begins : {e r ns : List ℕ} {n : ℕ} (x : List ℕ) → IsEpoch e n → IsRelease r ns → begins (e ++ (r ++ x)) ≡ true
epoch_begins {r = r} x no_epoch release = begins-append r x (release_begins release)
epoch_begins {r = r} x (epoch {ds = ds} num) release = begins-append (ds ++ (33 ∷ [])) (r ++ x) (begins-append ds (33 ∷ []) (number_begins num))

version_begins : {t : List ℕ} {v : Parts} → IsVersion t v → begins t ≡ true
version_begins h1 = grind (arith, epoch_begins)

no_operator : (t : List ℕ) → begins t ≡ true → begins_operator t ≡ false
no_operator t h1 = grind (arith, start_other)

-- ---- the characters

abbrev IsPlain : List ℕ → Type 0
IsPlain t = list_all is_specifier_byte t ≡ true

both : (s t : List ℕ) → IsPlain s → IsPlain t → IsPlain (s ++ t)
both s t h k = rw (list_all-append is_specifier_byte s t, h, k) refl

or_first : (p q : Bool) → p ≡ true → (p || q) ≡ true
or_first p q h1 = grind arith

version-bytes : (t : List ℕ) → list_all is_version_byte t ≡ true → IsPlain t
version-bytes [] h = refl
version-bytes (b ∷ t) h =
    let q = and_parts (is_version_byte b) (list_all is_version_byte t) h in
    and_from _ _ (or_first (is_version_byte b || is_operator_byte b) (b == 42) (or_first (is_version_byte b) (is_operator_byte b) q.0)) (version-bytes t q.1)

pub byte-is_plain : (b : ℕ) → is_specifier_byte b ≡ true → IsPlainByte b
byte-is_plain b h = record {
  ascii = grind (arith, nat_tests);
  no_space = grind (arith, nat_tests);
  no_capital = grind (arith, nat_tests);
  no_double_quote = grind (arith, nat_tests);
  no_single_quote = grind (arith, nat_tests);
  no_comma = grind (arith, nat_tests);
  no_semicolon = grind (arith, nat_tests);
}

byte-is_text : (b : ℕ) → is_specifier_byte b ≡ true → is_text_byte b ≡ true
byte-is_text b h = grind (arith, nat_tests)

-- ---- the whole text

-- an operator as it is written, without the star
abbrev written : Operator → Operator
written EqualStar = Equal
written NotEqualStar = NotEqual
written Equal = Equal
written ExactEqual = ExactEqual
written NotEqual = NotEqual
written TildeEqual = TildeEqual
written LessThan = LessThan
written LessThanEqual = LessThanEqual
written GreaterThan = GreaterThan
written GreaterThanEqual = GreaterThanEqual

abbrev star_text : Bool → List ℕ
star_text b = if b then codes ".*" else []

record Written (o : Operator) : Type 0 where
  same : operator_text o ≡ operator_text (written o)
  plain_one : is_star (written o) ≡ false
  makes : before_pattern (written o) (is_star o) ≡ Some o
  text : list_all is_specifier_byte (operator_text o) ≡ true

written_as : (o : Operator) → Written o
written_as o = grind arith

star-plain : (b : Bool) → IsPlain (star_text b)
star-plain b = grind arith

-- what follows the operator
abbrev back_text : Specifier → List ℕ
back_text s = version_text s.version ++ star_text (is_star s.operator)

pub text-is_plain : (s : Specifier) → IsWellFormed s → IsPlain (specifier_text s)
text-is_plain s h =
    both (operator_text s.operator) (back_text s) (written_as s.operator).text
    (both (version_text s.version) (star_text (is_star s.operator)) (version-bytes (version_text s.version) (text-plain s.version h.valid)) (star-plain (is_star s.operator)))

-- a version, or a release and `.*`
back-pattern : (v : Parts) (star : Bool) → (star ≡ true → IsReleaseAlone v) → IsValid v → IsPattern (version_text v ++ star_text star) v star
back-pattern v true alone valid = grind (arith, star-text)
back-pattern v false alone valid = subst (λ (t : List ℕ). IsPattern t v false) (sym (append-nil (version_text v))) (plain (valid-text v valid))

pub reads-back : (s : Specifier) → IsWellFormed s → IsSpecifierText (specifier_text s) s
reads-back s h =
    let w = written_as s.operator in
    let trimmed : trim (specifier_text s) ≡ specifier_text s = plain-trim (specifier_text s) (all-plain is_specifier_byte byte-is_text (specifier_text s) (text-is_plain s h)) in
    let pattern : IsPatternText (back_text s) s.version (is_star s.operator) = pattern-text (back_text s) s.version (is_star s.operator) (back-pattern s.version (is_star s.operator) h.allowed.star h.valid) in
    let front : IsOperatorBefore (trim (specifier_text s)) (written s.operator) (back_text s) = record {
      joined = trimmed ∙ ap (λ (t : List ℕ). t ++ back_text s) w.same;
      written = w.plain_one;
      longest = no_operator (back_text s) (begins-append (version_text s.version) (star_text (is_star s.operator)) (version_begins (valid-text s.version h.valid)));
    } in
    specifier front pattern (record { written = w.makes; same = refl; allowed = h.allowed })
