-- Names of keys: each key is a value of a marker.
use Rattle.std.proofs.Common.{◌≡◌, ℕ, List, refl, ◌∙◌}
use Rattle.marker_words.specs.declared.key.TextVariable.{TextVariable}
use Rattle.marker_words.specs.declared.key.TextVariable.TheVariants.{ImplementationName, OsName, PlatformMachine, PlatformPythonImplementation, PlatformRelease, PlatformSystem, PlatformVersion, SysPlatform}
use Rattle.marker_words.specs.declared.key.MarkerValueString.{MarkerValueString}
use Rattle.marker_words.specs.declared.key.MarkerValueString.TheVariants as spellings
use Rattle.marker_words.specs.Key as words
use Rattle.marker_words.specs.Key.{variable_name}
use Rattle.marker_words.specs.Lexical.{Value, version_key, text_key}
use Rattle.marker_words.specs.Part.{IsNamed}
use Rattle.marker_lines.specs.declared.key.EnvironmentKey.TheVariants.{Text, Version}
use Rattle.marker_lines.specs.Key.{IsNoKey}

-- a name of no value is that of no key
modern : TextVariable → MarkerValueString
modern ImplementationName = spellings.ImplementationName
modern OsName = spellings.OsName
modern PlatformMachine = spellings.PlatformMachine
modern PlatformPythonImplementation = spellings.PlatformPythonImplementation
modern PlatformRelease = spellings.PlatformRelease
modern PlatformSystem = spellings.PlatformSystem
modern PlatformVersion = spellings.PlatformVersion
modern SysPlatform = spellings.SysPlatform

modern_name : (variable : TextVariable) → variable_name variable ≡ words.key_name (modern variable)
unfolding modern
modern_name ImplementationName = refl
modern_name OsName = refl
modern_name PlatformMachine = refl
modern_name PlatformPythonImplementation = refl
modern_name PlatformRelease = refl
modern_name PlatformSystem = refl
modern_name PlatformVersion = refl
modern_name SysPlatform = refl

pub no_value_is_no_key : (name : List ℕ) → ((value : Value) → IsNamed value name → ⊥) → IsNoKey name
no_value_is_no_key name none (Text variable) e = none (text_key (modern variable)) (e ∙ modern_name variable)
no_value_is_no_key name none (Version key) e = none (version_key key) e
