-- The words of a comparison (PEP 508, "Grammar"; but white space is Unicode's, a quoted text has
-- every character other than its quote, and `===` is not an operator of markers). Each relation
-- goes from the text before the word to the word and the rest; texts are lists of characters.
use Rattle.std.specs.Prelude.{◌≡◌, ℕ, true, List, ◌∷◌, Option, Some, None, codes, encode_utf8_all}
use Rattle.pep508_text.specs.Class.{holds}
use Rattle.pep508_text.specs.Run.{Run, Spaces}
use Rattle.pep508_text.specs.declared.classes.Class.TheVariants.{Space, KeyPart, Comparison, WordPart, NotQuote}
use Rattle.marker_words.specs.declared.key.MarkerValueVersion.{MarkerValueVersion}
use Rattle.marker_words.specs.declared.key.MarkerValueString.{MarkerValueString}
use Rattle.marker_words.specs.declared.operator.MarkerOperator.{MarkerOperator}
use Rattle.marker_words.specs.declared.operator.MarkerOperator.TheVariants.{Equal, NotEqual, GreaterThan, GreaterEqual, LessThan, LessEqual, TildeEqual, In, NotIn, Contains, NotContains}
use Rattle.marker_words.specs.Key.{version_key_name, key_name}

-- one side of a comparison; a quoted text is seen as its bytes
pub data Value : Type 0 where
  version_key : MarkerValueVersion → Value
  text_key : MarkerValueString → Value
  extra : Value
  quoted : List ℕ → Value

-- `'` and `"`
pub data IsQuote : ℕ → Type 0 where
  single : IsQuote 39
  double : IsQuote 34

pub data IsValue : List ℕ → List ℕ → Value → Type 0 where
  is_quoted : {quote : ℕ} {input text output : List ℕ} →
      IsQuote quote → Run (NotQuote quote) input text (quote ∷ output) →
      IsValue (quote ∷ input) output (quoted (encode_utf8_all text))
  is_version_key : {key : MarkerValueVersion} {input output : List ℕ} →
      Run KeyPart input (version_key_name key) output → IsValue input output (version_key key)
  is_text_key : {key : MarkerValueString} {input output : List ℕ} →
      Run KeyPart input (key_name key) output → IsValue input output (text_key key)
  is_extra : {input output : List ℕ} →
      Run KeyPart input (codes "extra") output → IsValue input output extra

-- the text of an operator that is not a word
abbrev pub symbol_text : MarkerOperator → Option (List ℕ)
symbol_text Equal = Some (codes "==")
symbol_text NotEqual = Some (codes "!=")
symbol_text GreaterThan = Some (codes ">")
symbol_text GreaterEqual = Some (codes ">=")
symbol_text LessThan = Some (codes "<")
symbol_text LessEqual = Some (codes "<=")
symbol_text TildeEqual = Some (codes "~=")
symbol_text In = None
symbol_text NotIn = None
symbol_text Contains = None
symbol_text NotContains = None

-- an operator as it is written, `in` and `not in` among them; `not` is followed by white space, and
-- then the letters `in`
pub data IsOperator : List ℕ → List ℕ → MarkerOperator → Type 0 where
  is_symbol : {operator : MarkerOperator} {text input output : List ℕ} →
      symbol_text operator ≡ Some text → Run Comparison input text output →
      IsOperator input output operator
  is_in : {input output : List ℕ} →
      Run WordPart input (codes "in") output → IsOperator input output In
  is_not_in : {c : ℕ} {input gap output : List ℕ} →
      Run WordPart input (codes "not") (c ∷ gap) → holds Space c ≡ true →
      Spaces gap (105 ∷ 110 ∷ output) → IsOperator input output NotIn

-- a value, an operator and a value, with any white space before each
pub data Sides : List ℕ → List ℕ → Value → MarkerOperator → Value → Type 0 where
  sides : {input a b c d e output : List ℕ} {left right : Value} {operator : MarkerOperator} →
      Spaces input a → IsValue a b left → Spaces b c → IsOperator c d operator →
      Spaces d e → IsValue e output right → Sides input output left operator right
