-- Environments that were read, and the texts that are given.
use Rattle.std.specs.Prelude.{◌≡◌}
use Rattle.marker_words.specs.declared.key.TextVariable.{TextVariable}
use Rattle.marker_words.specs.declared.key.MarkerValueVersion.{MarkerValueVersion}
use Rattle.marker_environment.specs.declared.environment.MarkerEnvironment.{MarkerEnvironment}
use Rattle.marker_environment.specs.Environment.{text_of, version_of}
use Rattle.marker_environment.specs.Written.{Says}
use Rattle.foreign_calls.specs.declared.environment.Environment.{Environment}
use Rattle.foreign_calls.specs.Environment.{given_text, given_version}

-- each version is what its text says
abbrev pub AreSaid : MarkerEnvironment → Type 0
AreSaid known = (key : MarkerValueVersion)
    → Says (version_of known key).string (version_of known key)

-- the environment has the texts that are given
abbrev pub HasTexts : Environment → MarkerEnvironment → Type 0
HasTexts e known = (variable : TextVariable) → text_of known variable ≡ given_text e variable

-- and those of the versions
abbrev pub HasVersionTexts : Environment → MarkerEnvironment → Type 0
HasVersionTexts e known = (key : MarkerValueVersion)
    → (version_of known key).string ≡ given_version e key
