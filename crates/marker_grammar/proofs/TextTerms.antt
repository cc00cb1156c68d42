-- Comparisons of text keys, as they are printed.
use Rattle.std.proofs.Common.{◌≡◌, ℕ, true, List, [], ◌++◌, codes, IsUtf8, refl, ap, ◌∙◌, subst}
use Rattle.marker_words.specs.declared.key.TextVariable.{TextVariable}
use Rattle.marker_words.specs.declared.key.TextVariable.TheVariants.{ImplementationName, OsName, PlatformMachine, PlatformPythonImplementation, PlatformRelease, PlatformSystem, PlatformVersion, SysPlatform}
use Rattle.marker_words.specs.declared.operator.MarkerOperator.{MarkerOperator}
use Rattle.marker_words.specs.declared.operator.MarkerOperator.TheVariants.{Equal, NotEqual, GreaterThan, GreaterEqual, LessThan, LessEqual, TildeEqual, In, NotIn, Contains, NotContains}
use Rattle.marker_words.specs.Key.{key_name, variable_name}
use Rattle.marker_words.specs.Operator.{turned}
use Rattle.marker_words.specs.Print.{quoted_text}
use Rattle.marker_words.specs.Lexical.{text_key, quoted, IsValue}
use Rattle.marker_parts.specs.Comparison.{Means, key_and_text, text_and_key, kept_with, key_kinds, text_meaning}
use Rattle.marker_parts.specs.Expression.{text}
use Rattle.marker_parts.specs.Print.{compared_text, text_test_text}
use Rattle.marker_terms.specs.Plain.{is_plain}
use Rattle.marker_grammar.proofs.AsciiLaws.{Word, ascii_word}
use Rattle.marker_grammar.proofs.Printed.{IsBehind, IsRead, modern}
use Rattle.marker_grammar.proofs.QuoteLaws.{quoted_by}
use Rattle.marker_grammar.proofs.TermLaws.{name_read_first, text_read_first}
use Rattle.marker_grammar.proofs.WordLaws.{name_read, symbol_read, printed_operator, in_read, not_in_read}

-- how the name of a variable is read: as its key, which is warned of nothing
record IsKey (x : TextVariable) : Type 0 where
  pub word : Word (variable_name x)
  pub name : key_name (modern x) ≡ variable_name x
  pub kinds : key_kinds (modern x) ≡ []

is_key : (x : TextVariable) → IsKey x
is_key ImplementationName = record { word = ascii_word _ refl; name = refl; kinds = refl }
is_key OsName = record { word = ascii_word _ refl; name = refl; kinds = refl }
is_key PlatformMachine = record { word = ascii_word _ refl; name = refl; kinds = refl }
is_key PlatformPythonImplementation = record { word = ascii_word _ refl; name = refl; kinds = refl }
is_key PlatformRelease = record { word = ascii_word _ refl; name = refl; kinds = refl }
is_key PlatformSystem = record { word = ascii_word _ refl; name = refl; kinds = refl }
is_key PlatformVersion = record { word = ascii_word _ refl; name = refl; kinds = refl }
is_key SysPlatform = record { word = ascii_word _ refl; name = refl; kinds = refl }

key_read : (x : TextVariable) (o : List ℕ) → IsBehind o → IsValue (variable_name x ++ o) o (text_key (modern x))
key_read x o b = subst (λ n. IsValue (n ++ o) o (text_key (modern x))) (is_key x).name (name_read (modern x) o b)

module _ (x : TextVariable) (t : List ℕ) (u : IsUtf8 t) (p : is_plain t ≡ true) where
  -- the name before the text
  behind : (operator : MarkerOperator) (symbol : List ℕ) → Word symbol → printed_operator operator symbol → text_meaning (modern x) operator t ≡ kept_with (text (modern x) operator t) (key_kinds (modern x)) →
      IsRead (compared_text (variable_name x) symbol (quoted_text t)) (text (modern x) operator t) []
  behind operator symbol w s m =
      name_read_first (variable_name x) symbol t (quoted_text t) (text_key (modern x)) operator (text (modern x) operator t) [] (is_key x).word w (key_read x) s (quoted_by t u p)
      (subst (Means (text_key (modern x)) operator (quoted t)) (m ∙ ap (kept_with (text (modern x) operator t)) (is_key x).kinds) key_and_text)

  -- the text before the name, with the operator turned around
  before : (operator : MarkerOperator) (symbol : List ℕ) → Word symbol → printed_operator operator symbol → text_meaning (modern x) (turned operator) t ≡ kept_with (text (modern x) (turned operator) t) (key_kinds (modern x)) →
      IsRead (compared_text (quoted_text t) symbol (variable_name x)) (text (modern x) (turned operator) t) []
  before operator symbol w s m =
      text_read_first (variable_name x) symbol t (quoted_text t) (text_key (modern x)) operator (text (modern x) (turned operator) t) [] (is_key x).word w (key_read x) s (quoted_by t u p)
      (subst (Means (quoted t) operator (text_key (modern x))) (m ∙ ap (kept_with (text (modern x) (turned operator) t)) (is_key x).kinds) text_and_key)

-- a comparison of a text by any operator but `~=`
abbrev pub IsOfTexts : MarkerOperator → Type 0
IsOfTexts TildeEqual = ⊥
IsOfTexts operator = Unit {0}

pub text_printed : (x : TextVariable) (operator : MarkerOperator) (t : List ℕ) → IsOfTexts operator → IsUtf8 t → is_plain t ≡ true → IsRead (text_test_text (variable_name x) operator (quoted_text t)) (text (modern x) operator t) []
text_printed x Equal t h u p = behind x t u p Equal (codes "==") (ascii_word _ refl) (symbol_read Equal (codes "==") refl refl) refl
text_printed x NotEqual t h u p = behind x t u p NotEqual (codes "!=") (ascii_word _ refl) (symbol_read NotEqual (codes "!=") refl refl) refl
text_printed x GreaterThan t h u p = behind x t u p GreaterThan (codes ">") (ascii_word _ refl) (symbol_read GreaterThan (codes ">") refl refl) refl
text_printed x GreaterEqual t h u p = behind x t u p GreaterEqual (codes ">=") (ascii_word _ refl) (symbol_read GreaterEqual (codes ">=") refl refl) refl
text_printed x LessThan t h u p = behind x t u p LessThan (codes "<") (ascii_word _ refl) (symbol_read LessThan (codes "<") refl refl) refl
text_printed x LessEqual t h u p = behind x t u p LessEqual (codes "<=") (ascii_word _ refl) (symbol_read LessEqual (codes "<=") refl refl) refl
text_printed x TildeEqual t h u p = absurd h
text_printed x In t h u p = behind x t u p In (codes "in") (ascii_word _ refl) in_read refl
text_printed x NotIn t h u p = behind x t u p NotIn (codes "not in") (ascii_word _ refl) not_in_read refl
text_printed x Contains t h u p = before x t u p In (codes "in") (ascii_word _ refl) in_read refl
text_printed x NotContains t h u p = before x t u p NotIn (codes "not in") (ascii_word _ refl) not_in_read refl
