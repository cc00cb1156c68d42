-- What an environment shows, and its valuation with a list of extras (PEP 508, "Environment
-- Markers").
use Rattle.std.specs.Prelude.{◌≡◌, ◌≢◌, ℕ, false, List, string_bytes, bytes_eq, ⊤, String}
use Rattle.std.specs.List.{list_any}
use Rattle.refusal.specs.declared.Refusal.{Refusal}
use Rattle.refusal.specs.declared.Refusal.TheVariants.{OutOfMemory, SegmentAtEnd, Fault}
use Rattle.version_ranges.specs.Point.{at}
use Rattle.pep440_version.specs.declared.error.VersionParseError.{VersionParseError}
use Rattle.pep440_version.specs.Parts.{Parts}
use Rattle.pep440_version.specs.Grammar.{IsVersionText}
use Rattle.marker_words.specs.declared.key.TextVariable.{TextVariable}
use Rattle.marker_words.specs.declared.key.TextVariable.TheVariants.{ImplementationName, OsName, PlatformMachine, PlatformPythonImplementation, PlatformRelease, PlatformSystem, PlatformVersion, SysPlatform}
use Rattle.marker_words.specs.declared.key.MarkerValueVersion.{MarkerValueVersion}
use Rattle.marker_words.specs.declared.key.MarkerValueVersion.TheVariants.{ImplementationVersion, PythonFullVersion, PythonVersion}
use Rattle.marker_words.specs.Key.{version_variable_key}
use Rattle.marker_environment.specs.Written.{Written, written, Says}
use Rattle.marker_environment.specs.Substring.{is_part_of}
use Rattle.marker_environment.specs.Valuation.{Valuation}
use Rattle.marker_environment.specs.declared.builder.MarkerEnvironmentBuilder.{MarkerEnvironmentBuilder}
use Rattle.marker_environment.specs.declared.environment.MarkerEnvironment.{MarkerEnvironment}
use Rattle.marker_environment.specs.declared.string_version.StringVersion.{StringVersion}

-- the values of the modern keys
pub record Values : Type 0 where
  pub text : TextVariable → List ℕ
  pub version : MarkerValueVersion → Written

-- the values are the same, key by key
abbrev pub HasSameValues : Values → Values → Type 0
HasSameValues v w =
    ((variable : TextVariable) → v.text variable ≡ w.text variable)
    × ((key : MarkerValueVersion) → v.version key ≡ w.version key)

-- the bytes of each variable's value
abbrev pub text_of : MarkerEnvironment → TextVariable → List ℕ
text_of e ImplementationName = string_bytes e.implementation_name
text_of e OsName = string_bytes e.os_name
text_of e PlatformMachine = string_bytes e.platform_machine
text_of e PlatformPythonImplementation = string_bytes e.platform_python_implementation
text_of e PlatformRelease = string_bytes e.platform_release
text_of e PlatformSystem = string_bytes e.platform_system
text_of e PlatformVersion = string_bytes e.platform_version
text_of e SysPlatform = string_bytes e.sys_platform

-- the value of each version key
abbrev pub version_of : MarkerEnvironment → MarkerValueVersion → Written
version_of e ImplementationVersion = written e.implementation_version
version_of e PythonFullVersion = written e.python_full_version
version_of e PythonVersion = written e.python_version

abbrev pub values_of : MarkerEnvironment → Values
values_of e = record { text = text_of e; version = version_of e }

-- the texts from which an environment is made
abbrev pub texts_of : MarkerEnvironmentBuilder → TextVariable → List ℕ
texts_of b ImplementationName = b.implementation_name.now
texts_of b OsName = b.os_name.now
texts_of b PlatformMachine = b.platform_machine.now
texts_of b PlatformPythonImplementation = b.platform_python_implementation.now
texts_of b PlatformRelease = b.platform_release.now
texts_of b PlatformSystem = b.platform_system.now
texts_of b PlatformVersion = b.platform_version.now
texts_of b SysPlatform = b.sys_platform.now

-- those of the version keys
abbrev pub version_texts_of : MarkerEnvironmentBuilder → MarkerValueVersion → List ℕ
version_texts_of b ImplementationVersion = b.implementation_version.now
version_texts_of b PythonFullVersion = b.python_full_version.now
version_texts_of b PythonVersion = b.python_version.now

-- memory ran out, or the text of a version key is an invalid version, with its fault
abbrev pub IsRefusal : MarkerEnvironmentBuilder → Refusal VersionParseError → Type 0
IsRefusal b OutOfMemory = ⊤
IsRefusal b SegmentAtEnd = ⊥
IsRefusal b (Fault fault) =
    (key : MarkerValueVersion) × (string_bytes fault.text ≡ version_texts_of b key)
    × ((v : Parts) → IsVersionText (version_texts_of b key) v → ⊥)

-- one text variable has the value, and all other keys keep theirs
pub record SetsText (old new : Values) (variable : TextVariable) (value : List ℕ) : Type 0 where
  pub changed : new.text variable ≡ value
  pub others : (other : TextVariable) → other ≢ variable → new.text other ≡ old.text other
  pub versions : new.version ≡ old.version

-- one version key has the value, and all other keys keep theirs
pub record SetsVersion (old new : Values) (key : MarkerValueVersion) (value : Written) :
    Type 0 where
  pub changed : new.version key ≡ value
  pub others : (other : MarkerValueVersion) → other ≢ key → new.version other ≡ old.version other
  pub texts : new.text ≡ old.text

-- an environment with another text for a variable
abbrev pub ChangesText : {A : Type 0} → MarkerEnvironment → MarkerEnvironment → TextVariable
    → String A → Type 0
ChangesText old new variable value =
    SetsText (values_of old) (values_of new) variable (string_bytes value)

-- an environment with another version for a key
abbrev pub ChangesVersion : MarkerEnvironment → MarkerEnvironment → MarkerValueVersion
    → StringVersion → Type 0
ChangesVersion old new key value = SetsVersion (values_of old) (values_of new) key (written value)

-- this is the environment's version of a key
abbrev pub IsVersionOf : MarkerEnvironment → MarkerValueVersion → StringVersion → Type 0
IsVersionOf e key version = written version ≡ version_of e key

-- the environment has the texts of the builder
abbrev pub HasTextsOf : MarkerEnvironmentBuilder → MarkerEnvironment → Type 0
HasTextsOf builder environment = (variable : TextVariable)
    → text_of environment variable ≡ texts_of builder variable

-- and its versions are those that the builder's texts say
abbrev pub HasVersionsOf : MarkerEnvironmentBuilder → MarkerEnvironment → Type 0
HasVersionsOf builder environment = (key : MarkerValueVersion)
    → Says (version_texts_of builder key) (version_of environment key)

-- two environments have the same values
abbrev pub HaveSameValues : MarkerEnvironment → MarkerEnvironment → Type 0
HaveSameValues e f = HasSameValues (values_of e) (values_of f)

-- Each variable is at its value, substring tests are computed on the values, the listed extras are
-- true, and all others and each arbitrary one false. The value of `python_version` is not read.
abbrev pub valuation_of : Values → List (List ℕ) → Valuation
valuation_of values extras = record {
  version = λ variable. at (values.version (version_variable_key variable)).version;
  text = λ variable. at (values.text variable);
  inside = λ variable text. is_part_of (values.text variable) text;
  contains = λ variable text. is_part_of text (values.text variable);
  extra = λ name. list_any (λ listed. bytes_eq listed name) extras;
  arbitrary = λ text. false;
}

-- another value of `python_version` changes nothing that a marker sees
abbrev pub LeavesValuations : Values → Values → Written → Type 0
LeavesValuations old new value = (extras : List (List ℕ)) → SetsVersion old new PythonVersion value
    → valuation_of new extras ≡ valuation_of old extras
