-- How an example is written: as a marker.
use Rattle.std.specs.Prelude.{ℕ, List, [], ◌∷◌, ◌++◌, codes, map}
use Rattle.marker_words.specs.Key.{version_variable_key}
use Rattle.marker_words.specs.Print.{quoted_text}
use Rattle.marker_environment.specs.Environment.{text_of, version_of}
use Rattle.marker_walks.specs.declared.keys.EnvironmentKey.{EnvironmentKey}
use Rattle.marker_walks.specs.declared.keys.EnvironmentKey.TheVariants.{Version, Text}
use Rattle.marker_walks.specs.Keys.{key_name}
use Rattle.marker_witnesses.specs.declared.example.Example.{Example}

-- the text of a key's value
abbrev pub value_of : Example → EnvironmentKey → List ℕ
value_of example (Version x) = (version_of example.environment (version_variable_key x)).string
value_of example (Text x) = text_of example.environment x

-- a comparison with a quoted value
abbrev pub comparison : List ℕ → List ℕ → List ℕ → List ℕ
comparison key operator value =
    key ++ codes " " ++ operator ++ codes " " ++ quoted_text value

-- a text after others, with ` and ` between them
abbrev pub and_then : List ℕ → List ℕ → List ℕ
and_then [] text = text
and_then (c ∷ front) text = (c ∷ front) ++ codes " and " ++ text

abbrev pub all_after : List ℕ → List (List ℕ) → List ℕ
all_after front [] = front
all_after front (text ∷ texts) = all_after (and_then front text) texts

abbrev pub key_comparisons : Example → List (List ℕ)
key_comparisons example =
    map (λ key. comparison (key_name key) (codes "==") (value_of example key)) example.keys.items

abbrev pub extra_comparisons : List ℕ → List (List ℕ) → List (List ℕ)
extra_comparisons operator names = map (λ name. comparison (codes "extra") operator name) names

-- the comparisons of the chosen keys, of the extras that are requested, and of those that are not
abbrev pub comparisons : Example → List (List ℕ)
comparisons example = key_comparisons example ++ extra_comparisons (codes "==") example.extras.items
    ++ extra_comparisons (codes "!=") example.without.items

-- these with ` and ` between them
abbrev pub example_text : Example → List ℕ
example_text example = all_after [] (comparisons example)
