-- The values of an environment that are given.
use Rattle.std.specs.Prelude.{◌≡◌, ℕ, Bool, false, ◌==◌, List, Option, Some, None, find, option_map, String, string_bytes}
use Rattle.marker_words.specs.declared.key.TextVariable.{TextVariable}
use Rattle.marker_words.specs.declared.key.VersionVariable.{VersionVariable}
use Rattle.marker_nodes.specs.Variable.{text_rank, version_rank}
use Rattle.marker_walks.specs.declared.keys.EnvironmentKey.{EnvironmentKey}
use Rattle.marker_walks.specs.declared.keys.EnvironmentKey.TheVariants.{Version, Text}
use Rattle.pep440_version.specs.Grammar.{IsVersionText}
use Rattle.pep440_version.specs.Parts.{Parts}
use Rattle.marker_answers.specs.declared.known.KnownValues.{KnownValues}
use Rattle.marker_answers.specs.Known.{known_text, known_version}
use Rattle.marker_commands.specs.declared.values.Assignment.{Assignment}

-- whether two keys are the same
abbrev pub same_key : EnvironmentKey → EnvironmentKey → Bool
same_key (Version x) (Version y) = version_rank x == version_rank y
same_key (Version x) (Text y) = false
same_key (Text x) (Version y) = false
same_key (Text x) (Text y) = text_rank x == text_rank y

-- the value that a key is given: the first one
abbrev pub given_value : EnvironmentKey → List Assignment → Option (List ℕ)
given_value key assignments =
    option_map (λ a. string_bytes a.value) (find (λ a. same_key a.key key) assignments)

-- the text that a key is given, if it is given one
abbrev pub IsGivenText : {A : Type 0} → TextVariable → List Assignment → Option (String A)
    → Type 0
IsGivenText variable assignments found =
    option_map string_bytes found ≡ given_value (Text variable) assignments

-- the version of a value, if there is one
abbrev pub IsGivenVersion : Option (List ℕ) → Option Parts → Type 0
IsGivenVersion None found = found ≡ None
IsGivenVersion (Some text) found = (version : Parts) × (found ≡ Some version)
    × IsVersionText text version

-- each key has the value that it is given, and no other key has one
pub record AreGiven (assignments : List Assignment) (known : KnownValues) : Type 0 where
  pub texts : (x : TextVariable) → known_text known x ≡ given_value (Text x) assignments
  pub versions : (x : VersionVariable)
      → IsGivenVersion (given_value (Version x) assignments) (known_version known x)
