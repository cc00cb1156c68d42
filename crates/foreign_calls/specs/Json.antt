-- The parts of a requirement as a text of JSON (RFC 8259).
use Rattle.std.specs.Prelude.{ℕ, List, Option, Some, None, codes, map}
use Rattle.std.specs.Option.{option_map}
use Rattle.pep440_specifier.specs.Text.{specifier_text}
use Rattle.serde_json.specs.Data.{Data, null, string, array, object, member, no_members}
use Rattle.serde_json.specs.View.{items_of}
use Rattle.serde_json.specs.Written.{compact_text}
use Rattle.foreign_calls.specs.declared.json.Parts.{Parts}

-- a list of texts
abbrev pub texts_data : List (List ℕ) → Data
texts_data texts = array (items_of (map string texts))

-- a text, or null
abbrev pub text_or_null : Option (List ℕ) → Data
text_or_null None = null
text_or_null (Some text) = string text

-- an object with these members, in the order of their keys
abbrev pub parts_data : List ℕ → List (List ℕ) → List (List ℕ) → Option (List ℕ)
    → Option (List ℕ) → Data
parts_data name extras specifiers url marker = object
    (member (codes "extras") (texts_data extras)
    (member (codes "marker") (text_or_null marker)
    (member (codes "name") (string name)
    (member (codes "specifiers") (texts_data specifiers)
    (member (codes "url") (text_or_null url) no_members)))))

-- its text without spaces
abbrev pub parts_text : List ℕ → List (List ℕ) → List (List ℕ) → Option (List ℕ)
    → Option (List ℕ) → List ℕ
parts_text name extras specifiers url marker =
    compact_text (parts_data name extras specifiers url marker)

-- those of borrowed parts
abbrev pub data_of : Parts → Data
data_of parts = parts_data parts.name.now parts.extras.now
    (map specifier_text parts.specifiers.now)
    (option_map (λ t. t.now) parts.url) (option_map (λ t. t.now) parts.marker)

abbrev pub text_of : Parts → List ℕ
text_of parts = compact_text (data_of parts)
