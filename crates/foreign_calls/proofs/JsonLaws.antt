-- What is written for the parts of a requirement.
use Rattle.std.proofs.Common.{◌≡◌, ◌∙◌, ap, refl, ℕ, List, [], ◌∷◌, false, Option, Some, None, map}
use Rattle.std.specs.Option.{option_map}
use Rattle.pep440_specifier.specs.Text.{specifier_text}
use Rattle.serde_json.specs.Data.{Data, string}
use Rattle.serde_json.specs.View.{items_of}
use Rattle.serde_json.specs.Written.{has_float, items_have_float, compact_text}
use Rattle.foreign_calls.specs.declared.json.Parts.{Parts}
use Rattle.foreign_calls.specs.Json.{text_of, text_or_null, parts_data, parts_text}

texts_without_float : (texts : List (List ℕ)) → items_have_float (items_of (map string texts)) ≡ false
texts_without_float [] = refl
texts_without_float (text ∷ texts) = texts_without_float texts

text_without_float : (text : Option (List ℕ)) → has_float (text_or_null text) ≡ false
text_without_float None = refl
text_without_float (Some text) = refl

-- no part is a number
without_float : (name : List ℕ) (extras specifiers : List (List ℕ)) (url marker : Option (List ℕ)) → has_float (parts_data name extras specifiers url marker) ≡ false
without_float name extras specifiers url marker =
    rw (texts_without_float extras, text_without_float marker, texts_without_float specifiers, text_without_float url) refl

-- so the text of their value is known
pub parts_written : {text : List ℕ} {value : Data} (name : List ℕ) (extras specifiers : List (List ℕ)) (url marker : Option (List ℕ))
    → value ≡ parts_data name extras specifiers url marker → (has_float value ≡ false → text ≡ compact_text value) → text ≡ parts_text name extras specifiers url marker
parts_written name extras specifiers url marker is written =
    written (ap has_float is ∙ without_float name extras specifiers url marker) ∙ ap compact_text is
