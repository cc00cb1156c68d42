-- Texts in quotes, by their characters.
use Rattle.std.proofs.Common.{◌≡◌, ℕ, true, false, not, ◌==◌, cond, List, [], ◌∷◌, ◌++◌, IsUtf8, refl, ap, ◌∙◌, arith}
use Rattle.std.specs.List.{list_all, list_any}
use Rattle.std.specs.Str.{chars}
use Rattle.std.proofs.lemmas.Bool.{true≢false}
use Rattle.std.proofs.lemmas.Str.{chars-append, chars-nil, encode_ascii, encodes-chars, IsUtf8-append}
use Rattle.pep508_text.specs.Class.{holds}
use Rattle.pep508_text.specs.declared.classes.Class.TheVariants.{NotQuote}
use Rattle.marker_words.specs.Print.{quoted_text}
use Rattle.marker_words.specs.Lexical.{IsQuote, single, double}
use Rattle.marker_terms.specs.Plain.{is_plain}
use Rattle.marker_grammar.proofs.AsciiLaws.{ascii_word}
use Rattle.marker_grammar.proofs.WordLaws.{unquoted}
use Rattle.marker_grammar.proofs.SideLaws.{chars_ascii}

-- the bytes of a text in a quote that it does not contain
pub record Quoted (t bytes : List ℕ) : Type 0 where
  pub quote : ℕ
  pub is_quote : IsQuote quote
  pub characters : chars bytes ≡ quote ∷ (chars t ++ (quote ∷ []))
  pub utf8 : IsUtf8 bytes
  pub outside : list_all (holds (NotQuote quote)) (chars t) ≡ true
  pub text_utf8 : IsUtf8 t

ascii_39 : IsUtf8 (39 ∷ [])
ascii_39 = (ascii_word (39 ∷ []) refl).utf8

ascii_34 : IsUtf8 (34 ∷ [])
ascii_34 = (ascii_word (34 ∷ []) refl).utf8

-- a text without `'`, in `'`
pub in_single : (t : List ℕ) → IsUtf8 t → list_any (λ c. c == 39) t ≡ false → Quoted t (39 ∷ (t ++ (39 ∷ [])))
in_single t u h = record {
  quote = 39;
  is_quote = single;
  characters = chars_ascii 39 _ refl refl ∙ ap (λ (x : List ℕ). 39 ∷ x) (chars-append t (39 ∷ []) u ∙ ap (λ (x : List ℕ). chars t ++ x) (chars_ascii 39 [] refl refl ∙ ap (λ (x : List ℕ). 39 ∷ x) chars-nil));
  utf8 = IsUtf8-append (39 ∷ []) _ ascii_39 (IsUtf8-append t (39 ∷ []) u ascii_39);
  outside = unquoted 39 (chars t) (encode_ascii 39 (omega arith)) (ap (list_any (λ c. c == 39)) (encodes-chars t u) ∙ h);
  text_utf8 = u;
}

-- a text without `"`, in `"`
in_double : (t : List ℕ) → IsUtf8 t → list_any (λ c. c == 34) t ≡ false → Quoted t (34 ∷ (t ++ (34 ∷ [])))
in_double t u h = record {
  quote = 34;
  is_quote = double;
  characters = chars_ascii 34 _ refl refl ∙ ap (λ (x : List ℕ). 34 ∷ x) (chars-append t (34 ∷ []) u ∙ ap (λ (x : List ℕ). chars t ++ x) (chars_ascii 34 [] refl refl ∙ ap (λ (x : List ℕ). 34 ∷ x) chars-nil));
  utf8 = IsUtf8-append (34 ∷ []) _ ascii_34 (IsUtf8-append t (34 ∷ []) u ascii_34);
  outside = unquoted 34 (chars t) (encode_ascii 34 (omega arith)) (ap (list_any (λ c. c == 34)) (encodes-chars t u) ∙ h);
  text_utf8 = u;
}

-- a plain text, as it is printed
pub quoted_by : (t : List ℕ) → IsUtf8 t → is_plain t ≡ true → Quoted t (quoted_text t)
quoted_by t h1 h2 = grind (arith, true≢false, not, cond, in_double, in_single)
