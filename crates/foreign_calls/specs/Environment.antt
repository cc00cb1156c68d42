-- Environments and extras as another language gives them.
use Rattle.std.specs.Prelude.{◌≡◌, ℕ, List, [], ◌∷◌, map}
use Rattle.std.specs.Borrow.{Bor}
use Rattle.marker_words.specs.declared.key.TextVariable.{TextVariable}
use Rattle.marker_words.specs.declared.key.TextVariable.TheVariants.{ImplementationName, OsName, PlatformMachine, PlatformPythonImplementation, PlatformRelease, PlatformSystem, PlatformVersion, SysPlatform}
use Rattle.marker_words.specs.declared.key.MarkerValueVersion.{MarkerValueVersion}
use Rattle.marker_words.specs.declared.key.MarkerValueVersion.TheVariants.{ImplementationVersion, PythonFullVersion, PythonVersion}
use Rattle.marker_environment.specs.declared.builder.MarkerEnvironmentBuilder.{MarkerEnvironmentBuilder}
use Rattle.marker_environment.specs.Environment.{Values}
use Rattle.marker_environment.specs.Written.{Says}
use Rattle.pep508_names.specs.Name.{NormalizesTo}
use Rattle.foreign_calls.specs.declared.environment.Environment.{Environment}

-- each word is a name, and these are their normal forms (PEP 503)
pub data Names : List (List ℕ) → List (List ℕ) → Type 0 where
  no_more : Names [] []
  name : {word normal : List ℕ} {words names : List (List ℕ)}
      → NormalizesTo word normal → Names words names → Names (word ∷ words) (normal ∷ names)

-- the bytes of each text
abbrev pub bytes_of : List (Bor (List ℕ)) → List (List ℕ)
bytes_of words = map (λ word. word.now) words

-- the bytes of each variable's value
abbrev pub given_text : Environment → TextVariable → List ℕ
given_text e ImplementationName = e.implementation_name.now
given_text e OsName = e.os_name.now
given_text e PlatformMachine = e.platform_machine.now
given_text e PlatformPythonImplementation = e.platform_python_implementation.now
given_text e PlatformRelease = e.platform_release.now
given_text e PlatformSystem = e.platform_system.now
given_text e PlatformVersion = e.platform_version.now
given_text e SysPlatform = e.sys_platform.now

-- those of the version keys
abbrev pub given_version : Environment → MarkerValueVersion → List ℕ
given_version e ImplementationVersion = e.implementation_version.now
given_version e PythonFullVersion = e.python_full_version.now
given_version e PythonVersion = e.python_version.now

-- the builder has the texts of the environment
pub record HasSameTexts (e : Environment) (b : MarkerEnvironmentBuilder) : Type 0 where
  pub implementation_name : b.implementation_name.now ≡ e.implementation_name.now
  pub implementation_version : b.implementation_version.now ≡ e.implementation_version.now
  pub os_name : b.os_name.now ≡ e.os_name.now
  pub platform_machine : b.platform_machine.now ≡ e.platform_machine.now
  pub platform_python_implementation : b.platform_python_implementation.now
      ≡ e.platform_python_implementation.now
  pub platform_release : b.platform_release.now ≡ e.platform_release.now
  pub platform_system : b.platform_system.now ≡ e.platform_system.now
  pub platform_version : b.platform_version.now ≡ e.platform_version.now
  pub python_full_version : b.python_full_version.now ≡ e.python_full_version.now
  pub python_version : b.python_version.now ≡ e.python_version.now
  pub sys_platform : b.sys_platform.now ≡ e.sys_platform.now

-- the environment gives these values
pub record AreGiven (e : Environment) (values : Values) : Type 0 where
  pub texts : (variable : TextVariable) → values.text variable ≡ given_text e variable
  pub versions : (key : MarkerValueVersion) → Says (given_version e key) (values.version key)
