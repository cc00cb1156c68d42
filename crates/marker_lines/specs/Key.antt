-- The keys that a line sets, by their modern names. (PEP 508, "Environment Markers")
use Rattle.std.specs.Prelude.{◌≢◌, ℕ, List}
use Rattle.marker_words.specs.Key.{variable_name, version_key_name}
use Rattle.marker_lines.specs.declared.key.EnvironmentKey.{EnvironmentKey}
use Rattle.marker_lines.specs.declared.key.EnvironmentKey.TheVariants.{Text, Version}

abbrev pub key_name : EnvironmentKey → List ℕ
key_name (Text variable) = variable_name variable
key_name (Version key) = version_key_name key

-- no key has this name
abbrev pub IsNoKey : List ℕ → Type 0
IsNoKey name = (key : EnvironmentKey) → name ≢ key_name key
