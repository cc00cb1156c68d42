-- How values are printed (PEP 508, "Grammar", which leaves open which quotes are printed). Texts
-- are lists of bytes.
use Rattle.std.specs.Prelude.{ℕ, List, ◌==◌, ◌∷◌, [], ◌++◌, codes, if◌then◌else◌, string_bytes}
use Rattle.std.specs.List.{list_any}
use Rattle.marker_words.specs.declared.marker_value.MarkerValue.{MarkerValue}
use Rattle.marker_words.specs.declared.marker_value.MarkerValue.TheVariants.{MarkerEnvVersion, MarkerEnvString, Extra, QuotedString}
use Rattle.marker_words.specs.Key.{version_key_name, variable_name, variable_of}
use Rattle.marker_words.specs.Lexical.{Value, version_key, text_key, extra, quoted}

-- a text in `'`, or in `"` if it contains a `'`
abbrev pub quoted_text : List ℕ → List ℕ
quoted_text text =
    if list_any (λ c. c == 39) text then 34 ∷ (text ++ 34 ∷ []) else 39 ∷ (text ++ 39 ∷ [])

-- a key by its modern name
abbrev pub value_text : Value → List ℕ
value_text (version_key key) = version_key_name key
value_text (text_key key) = variable_name (variable_of key)
value_text extra = codes "extra"
value_text (quoted text) = quoted_text text

-- a value, without the place of its text
abbrev pub owned_value : MarkerValue → Value
owned_value (MarkerEnvVersion key) = version_key key
owned_value (MarkerEnvString key) = text_key key
owned_value Extra = extra
owned_value (QuotedString text) = quoted (string_bytes text)
