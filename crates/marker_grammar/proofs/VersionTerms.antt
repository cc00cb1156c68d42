-- Comparisons of version keys, as they are printed.
use Rattle.std.proofs.Common.{◌≡◌, ◌≢◌, ℕ, Bool, true, false, ◌||◌, ◌==◌, List, [], ◌∷◌, ◌++◌, codes, Some, if◌then◌else◌, refl, sym, ap, ◌∙◌, subst, arith}
use Rattle.std.specs.List.{list_all, list_any}
use Rattle.std.proofs.lemmas.Bool.{and_parts, and_from}
use Rattle.std.proofs.lemmas.Bool.Decides.{nat_tests}
use Rattle.std.proofs.lemmas.List.{append-nil}
use Rattle.std.proofs.lemmas.List.Folds.{list_all-append}
use Rattle.pep440_version.specs.Grammar.{IsPatternText, plain}
use Rattle.pep440_version.specs.Plain.{is_version_byte}
use Rattle.pep440_version.specs.Text.{version_text}
use Rattle.pep440_version.specs.Valid.{IsValid}
use Rattle.pep440_version.proofs.Plain.{text-plain}
use Rattle.pep440_version.proofs.ReadBack.{version-text, pattern-text}
use Rattle.pep440_version.proofs.Text.{valid-text, star-text}
use Rattle.pep440_specifier.specs.declared.operator.Operator.{Operator}
use Rattle.pep440_specifier.specs.declared.operator.Operator.TheVariants as specifiers
use Rattle.pep440_specifier.specs.Operator.{before_pattern, is_star, operator_text}
use Rattle.pep440_specifier.specs.Specifier.{IsWellFormed, Makes, Specifier}
use Rattle.marker_words.specs.declared.key.MarkerValueVersion.{MarkerValueVersion}
use Rattle.marker_words.specs.declared.key.MarkerValueVersion.TheVariants as version_keys
use Rattle.marker_words.specs.declared.operator.MarkerOperator.{MarkerOperator}
use Rattle.marker_words.specs.declared.operator.MarkerOperator.TheVariants.{Equal, NotEqual, GreaterThan, GreaterEqual, LessThan, LessEqual, TildeEqual}
use Rattle.marker_words.specs.Key.{version_key_name}
use Rattle.marker_words.specs.Lexical.{version_key}
use Rattle.marker_parts.specs.Comparison.{version_and_text, asks}
use Rattle.marker_parts.specs.Expression.{version}
use Rattle.marker_parts.specs.Print.{compared_text, pattern_text}
use Rattle.marker_parts.specs.VersionComparison.{version_operator, Asks, compares}
use Rattle.marker_grammar.proofs.AsciiLaws.{Word, ascii_word, is_ascii_byte}
use Rattle.marker_grammar.proofs.Printed.{IsRead}
use Rattle.marker_grammar.proofs.QuoteLaws.{Quoted, in_single}
use Rattle.marker_grammar.proofs.TermLaws.{name_read_first}
use Rattle.marker_grammar.proofs.WordLaws.{version_name_read, symbol_read, printed_operator}

key_word : (key : MarkerValueVersion) → Word (version_key_name key)
key_word version_keys.ImplementationVersion = ascii_word _ refl
key_word version_keys.PythonFullVersion = ascii_word _ refl
key_word version_keys.PythonVersion = ascii_word _ refl

-- ---- the text of a pattern

-- a byte of a version or `*`
is_pattern_byte : ℕ → Bool
is_pattern_byte b = is_version_byte b || b == 42

byte_ascii : (b : ℕ) → is_pattern_byte b ≡ true → is_ascii_byte b ≡ true
unfolding is_pattern_byte
byte_ascii b h = grind (arith, nat_tests)

byte_unquoted : (b : ℕ) → is_pattern_byte b ≡ true → (b == 39) ≡ false
unfolding is_pattern_byte
byte_unquoted b h = grind (arith, nat_tests)

version_byte : (b : ℕ) → is_version_byte b ≡ true → is_pattern_byte b ≡ true
unfolding is_pattern_byte
version_byte b h = ap (λ x. x || b == 42) h

each_byte : (p q : ℕ → Bool) → ((b : ℕ) → p b ≡ true → q b ≡ true) → (t : List ℕ) → list_all p t ≡ true → list_all q t ≡ true
each_byte p q f [] h = refl
each_byte p q f (b ∷ t) h = let r = and_parts (p b) (list_all p t) h in and_from _ _ (f b r.0) (each_byte p q f t r.1)

no_quote : (t : List ℕ) → list_all is_pattern_byte t ≡ true → list_any (λ c. c == 39) t ≡ false
no_quote [] h = refl
no_quote (b ∷ t) h =
    let r = and_parts (is_pattern_byte b) (list_all is_pattern_byte t) h in
    ap (λ x. x || list_any (λ c. c == 39) t) (byte_unquoted b r.0) ∙ no_quote t r.1

pattern_bytes : (s : Specifier) → IsValid s.version → list_all is_pattern_byte (pattern_text s) ≡ true
unfolding is_pattern_byte
pattern_bytes s valid = list_all-append is_pattern_byte (version_text s.version) _ ∙ and_from _ _ (each_byte is_version_byte is_pattern_byte version_byte (version_text s.version) (text-plain s.version valid)) (end (is_star s.operator))
  where
    end : (b : Bool) → list_all is_pattern_byte (if b then codes ".*" else []) ≡ true
    end b = grind arith

pattern_quoted : (s : Specifier) → IsValid s.version → Quoted (pattern_text s) (codes "'" ++ (pattern_text s ++ codes "'"))
pattern_quoted s valid =
    let bytes = pattern_bytes s valid in
    in_single (pattern_text s) (ascii_word (pattern_text s) (each_byte is_pattern_byte is_ascii_byte byte_ascii (pattern_text s) bytes)).utf8 (no_quote (pattern_text s) bytes)

pattern_read : (s : Specifier) → IsWellFormed s → IsPatternText (pattern_text s) s.version (is_star s.operator)
pattern_read s w = by_star (is_star s.operator) refl
  where
    by_star : (b : Bool) → is_star s.operator ≡ b → IsPatternText (version_text s.version ++ (if b then codes ".*" else [])) s.version b
    by_star false e = subst (λ t. IsPatternText t s.version false) (sym (append-nil (version_text s.version))) (plain (version-text _ s.version (valid-text s.version w.valid)))
    by_star true e =
        let alone = w.allowed.star e in
        subst (λ v. IsPatternText (version_text v ++ codes ".*") v true) (sym alone)
        (pattern-text _ _ _ (star-text s.version.epoch s.version.release (subst IsValid alone w.valid)))

-- ---- the whole comparison

compared_by : (key : MarkerValueVersion) (s : Specifier) (operator : MarkerOperator) (base : Operator) (symbol : List ℕ) → IsWellFormed s → (IsPatternText (pattern_text s) s.version (is_star s.operator) → Makes base s.version (is_star s.operator) s → Asks key (pattern_text s) (version_operator operator) (version key s)) →
    operator_text s.operator ≡ symbol → before_pattern base (is_star s.operator) ≡ Some s.operator → Word symbol → printed_operator operator symbol →
    IsRead (compared_text (version_key_name key) (operator_text s.operator) (codes "'" ++ (pattern_text s ++ codes "'"))) (version key s) []
compared_by key s operator base symbol w ask e b word p =
    subst (λ x. IsRead (compared_text (version_key_name key) x (codes "'" ++ (pattern_text s ++ codes "'"))) (version key s) []) (sym e)
    (name_read_first (version_key_name key) symbol (pattern_text s) (codes "'" ++ (pattern_text s ++ codes "'")) (version_key key) operator (version key s) [] (key_word key) word (version_name_read key) p (pattern_quoted s w.valid)
    (version_and_text (asks (ask (pattern_read s w) (record { written = b; same = refl; allowed = w.allowed })))))

pub version_printed : (key : MarkerValueVersion) (s : Specifier) → IsWellFormed s → s.operator ≢ specifiers.ExactEqual → IsRead (compared_text (version_key_name key) (operator_text s.operator) (codes "'" ++ (pattern_text s ++ codes "'"))) (version key s) []
version_printed key s w n = by_operator s.operator refl
  where
    printed : (o : Operator) → s.operator ≡ o → (operator : MarkerOperator) (base : Operator) → (IsPatternText (pattern_text s) s.version (is_star s.operator) → Makes base s.version (is_star s.operator) s → Asks key (pattern_text s) (version_operator operator) (version key s)) → before_pattern base (is_star o) ≡ Some o →
        Word (operator_text o) → printed_operator operator (operator_text o) → IsRead (compared_text (version_key_name key) (operator_text s.operator) (codes "'" ++ (pattern_text s ++ codes "'"))) (version key s) []
    printed o e operator base ask g word p = compared_by key s operator base (operator_text o) w ask (ap operator_text e) (ap (λ x. before_pattern base (is_star x)) e ∙ g ∙ ap Some (sym e)) word p

    by_operator : (o : Operator) → s.operator ≡ o → IsRead (compared_text (version_key_name key) (operator_text s.operator) (codes "'" ++ (pattern_text s ++ codes "'"))) (version key s) []
    by_operator specifiers.Equal e = printed specifiers.Equal e Equal specifiers.Equal (λ t m. compares t m) refl (ascii_word _ refl) (symbol_read Equal _ refl refl)
    by_operator specifiers.EqualStar e = printed specifiers.EqualStar e Equal specifiers.Equal (λ t m. compares t m) refl (ascii_word _ refl) (symbol_read Equal _ refl refl)
    by_operator specifiers.ExactEqual e = absurd (n e)
    by_operator specifiers.NotEqual e = printed specifiers.NotEqual e NotEqual specifiers.NotEqual (λ t m. compares t m) refl (ascii_word _ refl) (symbol_read NotEqual _ refl refl)
    by_operator specifiers.NotEqualStar e = printed specifiers.NotEqualStar e NotEqual specifiers.NotEqual (λ t m. compares t m) refl (ascii_word _ refl) (symbol_read NotEqual _ refl refl)
    by_operator specifiers.TildeEqual e = printed specifiers.TildeEqual e TildeEqual specifiers.TildeEqual (λ t m. compares t m) refl (ascii_word _ refl) (symbol_read TildeEqual _ refl refl)
    by_operator specifiers.LessThan e = printed specifiers.LessThan e LessThan specifiers.LessThan (λ t m. compares t m) refl (ascii_word _ refl) (symbol_read LessThan _ refl refl)
    by_operator specifiers.LessThanEqual e = printed specifiers.LessThanEqual e LessEqual specifiers.LessThanEqual (λ t m. compares t m) refl (ascii_word _ refl) (symbol_read LessEqual _ refl refl)
    by_operator specifiers.GreaterThan e = printed specifiers.GreaterThan e GreaterThan specifiers.GreaterThan (λ t m. compares t m) refl (ascii_word _ refl) (symbol_read GreaterThan _ refl refl)
    by_operator specifiers.GreaterThanEqual e = printed specifiers.GreaterThanEqual e GreaterEqual specifiers.GreaterThanEqual (λ t m. compares t m) refl (ascii_word _ refl) (symbol_read GreaterEqual _ refl refl)
