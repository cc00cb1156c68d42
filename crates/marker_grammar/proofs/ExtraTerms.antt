-- Comparisons of `extra`, as they are printed.
use Rattle.std.proofs.Common.{◌≡◌, ◌&&◌, ◌||◌, ◌==◌, ℕ, true, false, not, List, [], ◌∷◌, codes, IsUtf8, refl, ap, ◌∙◌, arith}
use Rattle.std.specs.List.{list_all, list_any}
use Rattle.std.proofs.lemmas.Bool.{and_parts, and_from}
use Rattle.std.proofs.lemmas.Bool.Decides.{nat_tests}
use Rattle.std.proofs.lemmas.Str.{IsUtf8-string_bytes}
use Rattle.pep508_text.specs.Class.{is_name_character}
use Rattle.pep508_names.proofs.IdentifierLaws.{names_are_identifiers}
use Rattle.marker_words.specs.declared.operator.MarkerOperator.TheVariants.{Equal, NotEqual}
use Rattle.marker_words.specs.declared.operator.ExtraOperator.{ExtraOperator}
use Rattle.marker_words.specs.declared.operator.ExtraOperator.TheVariants as extra_operators
use Rattle.marker_words.specs.Operator.{extra_operator_text}
use Rattle.marker_words.specs.Print.{quoted_text}
use Rattle.marker_words.specs.Lexical as lexical
use Rattle.marker_parts.specs.declared.extra.MarkerValueExtra.{MarkerValueExtra}
use Rattle.marker_parts.specs.declared.extra.MarkerValueExtra.TheVariants as extra_values
use Rattle.marker_parts.specs.Comparison.{extra_and_text, extra_kinds, IsExtra, named, unnamed}
use Rattle.marker_parts.specs.Expression.{extra, extra_of}
use Rattle.marker_parts.specs.Print.{compared_text, extra_text}
use Rattle.marker_terms.specs.Plain.{is_plain, IsPlainExtra}
use Rattle.marker_grammar.proofs.AsciiLaws.{ascii_word, is_ascii_byte}
use Rattle.marker_grammar.proofs.Printed.{IsRead}
use Rattle.marker_grammar.proofs.QuoteLaws.{quoted_by}
use Rattle.marker_grammar.proofs.TermLaws.{name_read_first}
use Rattle.marker_grammar.proofs.WordLaws.{extra_read, symbol_read}

byte_ascii : (b : ℕ) → is_name_character b ≡ true → is_ascii_byte b ≡ true
byte_ascii b h = grind (arith, nat_tests)

byte_unquoted : (b : ℕ) → is_name_character b ≡ true → (b == 39) ≡ false
byte_unquoted b h = grind (arith, nat_tests)

all_ascii : (t : List ℕ) → list_all is_name_character t ≡ true → list_all is_ascii_byte t ≡ true
all_ascii [] h = refl
all_ascii (b ∷ t) h = let r = and_parts (is_name_character b) (list_all is_name_character t) h in and_from _ _ (byte_ascii b r.0) (all_ascii t r.1)

no_quote : (t : List ℕ) → list_all is_name_character t ≡ true → list_any (λ c. c == 39) t ≡ false
no_quote [] h = refl
no_quote (b ∷ t) h =
    let r = and_parts (is_name_character b) (list_all is_name_character t) h in
    ap (λ x. x || list_any (λ c. c == 39) t) (byte_unquoted b r.0) ∙ no_quote t r.1

-- the quoted text after `extra`, and the extra that it parses as
record IsQuotable (x : MarkerValueExtra) : Type 0 where
  pub utf8 : IsUtf8 (extra_text x)
  pub plain : is_plain (extra_text x) ≡ true
  pub which : IsExtra (extra_text x) (extra_of x) (extra_kinds (extra_of x))

quotable : (x : MarkerValueExtra) → IsPlainExtra (extra_of x) → IsQuotable x
quotable (extra_values.Extra n) h =
    let all = ((names_are_identifiers n).0 (n, h)).characters in
    record { utf8 = (ascii_word n (all_ascii n all)).utf8; plain = ap (λ b. not (b && list_any (λ c. c == 34) n)) (no_quote n all); which = named h }
quotable (extra_values.Arbitrary t) h = record { utf8 = IsUtf8-string_bytes t; plain = h.1; which = unnamed h.0 }

pub extra_printed : (operator : ExtraOperator) (x : MarkerValueExtra) → IsPlainExtra (extra_of x) → IsRead (compared_text (codes "extra") (extra_operator_text operator) (quoted_text (extra_text x))) (extra operator (extra_of x)) (extra_kinds (extra_of x))
extra_printed extra_operators.Equal x h =
    let q = quotable x h in
    name_read_first (codes "extra") (codes "==") (extra_text x) (quoted_text (extra_text x)) lexical.extra Equal (extra extra_operators.Equal (extra_of x)) (extra_kinds (extra_of x)) (ascii_word _ refl) (ascii_word _ refl) extra_read
    (symbol_read Equal _ refl refl) (quoted_by (extra_text x) q.utf8 q.plain) (extra_and_text q.which)
extra_printed extra_operators.NotEqual x h =
    let q = quotable x h in
    name_read_first (codes "extra") (codes "!=") (extra_text x) (quoted_text (extra_text x)) lexical.extra NotEqual (extra extra_operators.NotEqual (extra_of x)) (extra_kinds (extra_of x)) (ascii_word _ refl) (ascii_word _ refl) extra_read
    (symbol_read NotEqual _ refl refl) (quoted_by (extra_text x) q.utf8 q.plain) (extra_and_text q.which)
