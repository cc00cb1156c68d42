-- Printed comparisons by their bytes.
use Rattle.std.proofs.Common.{◌≡◌, ℕ, List, [], ◌∷◌, ◌++◌, IsUtf8, refl, sym, ap, ◌∙◌, subst, arith}
use Rattle.std.specs.Str.{chars}
use Rattle.std.proofs.lemmas.List.{append_assoc}
use Rattle.std.proofs.lemmas.Str.{chars-append, encodes-chars, IsUtf8-append}
use Rattle.pep508_errors.specs.declared.warning.MarkerWarningKind.{MarkerWarningKind}
use Rattle.marker_words.specs.declared.operator.MarkerOperator.{MarkerOperator}
use Rattle.marker_words.specs.Lexical.{Value, quoted, IsValue}
use Rattle.marker_parts.specs.Comparison.{Compared, Means, kept_with}
use Rattle.marker_parts.specs.Expression.{Test}
use Rattle.marker_parts.specs.Print.{compared_text}
use Rattle.marker_grammar.proofs.Printed.{IsBehind, IsRead}
use Rattle.marker_grammar.proofs.AsciiLaws.{Word, ascii_word}
use Rattle.marker_grammar.proofs.WordLaws.{printed_operator}
use Rattle.marker_grammar.proofs.SideLaws.{name_first, text_first, chars_ascii}
use Rattle.marker_grammar.proofs.QuoteLaws.{Quoted}

ascii_32 : IsUtf8 (32 ∷ [])
ascii_32 = (ascii_word (32 ∷ []) refl).utf8

-- three words with a space between each two
chars_compared : (left operator right : List ℕ) → IsUtf8 left → IsUtf8 operator → chars (compared_text left operator right) ≡ chars left ++ (32 ∷ (chars operator ++ (32 ∷ chars right)))
chars_compared left operator right h1 h2 = grind (arith, chars-append, chars_ascii)

utf8_compared : (left operator right : List ℕ) → IsUtf8 left → IsUtf8 operator → IsUtf8 right → IsUtf8 (compared_text left operator right)
utf8_compared left operator right u w r = IsUtf8-append left _ u (IsUtf8-append (32 ∷ []) _ ascii_32 (IsUtf8-append operator _ w (IsUtf8-append (32 ∷ []) _ ascii_32 r)))

module _ (name symbol t bytes : List ℕ) (value : Value) (operator : MarkerOperator) (test : Test) (kinds : List MarkerWarningKind) where
  -- a name before a quoted text
  pub name_read_first : Word name → Word symbol → ((o : List ℕ) → IsBehind o → IsValue (name ++ o) o value) → printed_operator operator symbol → Quoted t bytes →
      Means value operator (quoted t) (kept_with test kinds) → IsRead (compared_text name symbol bytes) test kinds
  name_read_first n w v p q m = record {
    utf8 = utf8_compared name symbol bytes n.utf8 w.utf8 q.utf8;
    reads = record {
      compared = λ o b. subst (λ i. Compared (i ++ o) o (kept_with test kinds)) (sym shape)
          (name_first name symbol (chars t) q.quote value operator v p q.is_quote q.outside (subst (λ s. Means value operator (quoted s) (kept_with test kinds)) (sym (encodes-chars t q.text_utf8)) m) o);
    };
  }
    where
      shape : chars (compared_text name symbol bytes) ≡ name ++ (32 ∷ (symbol ++ (32 ∷ q.quote ∷ (chars t ++ (q.quote ∷ [])))))
      shape = chars_compared name symbol bytes n.utf8 w.utf8 ∙ ap (λ (x : List ℕ). x ++ (32 ∷ (chars symbol ++ (32 ∷ chars bytes)))) n.characters
          ∙ ap (λ (x : List ℕ). name ++ (32 ∷ (x ++ (32 ∷ chars bytes)))) w.characters ∙ ap (λ (x : List ℕ). name ++ (32 ∷ (symbol ++ (32 ∷ x)))) q.characters

  -- a quoted text before a name
  pub text_read_first : Word name → Word symbol → ((o : List ℕ) → IsBehind o → IsValue (name ++ o) o value) → printed_operator operator symbol → Quoted t bytes →
      Means (quoted t) operator value (kept_with test kinds) → IsRead (compared_text bytes symbol name) test kinds
  text_read_first n w v p q m = record {
    utf8 = utf8_compared bytes symbol name q.utf8 w.utf8 n.utf8;
    reads = record {
      compared = λ o b. subst (λ i. Compared (i ++ o) o (kept_with test kinds)) (sym shape)
          (text_first name symbol (chars t) q.quote value operator v p q.is_quote q.outside (subst (λ s. Means (quoted s) operator value (kept_with test kinds)) (sym (encodes-chars t q.text_utf8)) m) o b);
    };
  }
    where
      regroup : (q.quote ∷ (chars t ++ (q.quote ∷ []))) ++ (32 ∷ (symbol ++ (32 ∷ name))) ≡ q.quote ∷ (chars t ++ (q.quote ∷ 32 ∷ (symbol ++ (32 ∷ name))))
      regroup = simp append_assoc

      shape : chars (compared_text bytes symbol name) ≡ q.quote ∷ (chars t ++ (q.quote ∷ 32 ∷ (symbol ++ (32 ∷ name))))
      shape = chars_compared bytes symbol name q.utf8 w.utf8 ∙ ap (λ (x : List ℕ). x ++ (32 ∷ (chars symbol ++ (32 ∷ chars name)))) q.characters
          ∙ ap (λ (x : List ℕ). (q.quote ∷ (chars t ++ (q.quote ∷ []))) ++ (32 ∷ (x ++ (32 ∷ chars name)))) w.characters
          ∙ ap (λ (x : List ℕ). (q.quote ∷ (chars t ++ (q.quote ∷ []))) ++ (32 ∷ (symbol ++ (32 ∷ x)))) n.characters ∙ regroup
