-- The results of the parsers, without the places of their texts, and the words inside a value and
-- an operator.
use Rattle.std.specs.Prelude.{◌≡◌, ℕ, true, List, ◌∷◌, codes}
use Rattle.pep508_text.specs.Class.{holds}
use Rattle.pep508_text.specs.Run.{Spaces}
use Rattle.pep508_text.specs.declared.classes.Class.TheVariants.{Space}
use Rattle.marker_words.specs.declared.parts.MarkerValueRef.{MarkerValueRef}
use Rattle.marker_words.specs.declared.parts.MarkerValueRef.TheVariants.{MarkerEnvVersion, MarkerEnvString, Extra, QuotedString}
use Rattle.marker_words.specs.Key.{version_key_name, key_name}
use Rattle.marker_words.specs.Lexical.{Value, version_key, text_key, extra, quoted}

abbrev pub value_of : MarkerValueRef → Value
value_of (MarkerEnvVersion key) = version_key key
value_of (MarkerEnvString key) = text_key key
value_of Extra = extra
value_of (QuotedString text) = quoted text.now

-- the value has this name; a quoted text has none
abbrev pub IsNamed : Value → List ℕ → Type 0
IsNamed (version_key key) name = name ≡ version_key_name key
IsNamed (text_key key) name = name ≡ key_name key
IsNamed extra name = name ≡ codes "extra"
IsNamed (quoted text) name = ⊥

-- white space, at least one character of it, and the letters `in`: what follows a `not`
pub data IsBehindNot : List ℕ → List ℕ → Type 0 where
  behind_not : {c : ℕ} {gap output : List ℕ} →
      holds Space c ≡ true → Spaces gap (105 ∷ 110 ∷ output) → IsBehindNot (c ∷ gap) output
