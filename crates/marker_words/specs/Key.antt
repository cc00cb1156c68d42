-- The keys of an environment, their names and their variables (PEP 508, "Environment Markers").
use Rattle.std.specs.Prelude.{ℕ, Bool, true, false, List, codes}
use Rattle.marker_words.specs.declared.key.MarkerValueVersion.{MarkerValueVersion}
use Rattle.marker_words.specs.declared.key.MarkerValueVersion.TheVariants as version_keys
use Rattle.marker_words.specs.declared.key.MarkerValueString.{MarkerValueString}
use Rattle.marker_words.specs.declared.key.MarkerValueString.TheVariants as text_keys
use Rattle.marker_words.specs.declared.key.TextVariable.{TextVariable}
use Rattle.marker_words.specs.declared.key.TextVariable.TheVariants.{ImplementationName, OsName, PlatformMachine, PlatformPythonImplementation, PlatformRelease, PlatformSystem, PlatformVersion, SysPlatform}
use Rattle.marker_words.specs.declared.key.VersionVariable.{VersionVariable}
use Rattle.marker_words.specs.declared.key.VersionVariable.TheVariants as version_variables

abbrev pub version_key_name : MarkerValueVersion → List ℕ
version_key_name version_keys.ImplementationVersion = codes "implementation_version"
version_key_name version_keys.PythonFullVersion = codes "python_full_version"
version_key_name version_keys.PythonVersion = codes "python_version"

-- the key of a version variable; `python_version` has none
abbrev pub version_variable_key : VersionVariable → MarkerValueVersion
version_variable_key version_variables.ImplementationVersion = version_keys.ImplementationVersion
version_variable_key version_variables.PythonFullVersion = version_keys.PythonFullVersion

abbrev pub version_variable_name : VersionVariable → List ℕ
version_variable_name variable = version_key_name (version_variable_key variable)

-- the modern name of a text variable
abbrev pub variable_name : TextVariable → List ℕ
variable_name ImplementationName = codes "implementation_name"
variable_name OsName = codes "os_name"
variable_name PlatformMachine = codes "platform_machine"
variable_name PlatformPythonImplementation = codes "platform_python_implementation"
variable_name PlatformRelease = codes "platform_release"
variable_name PlatformSystem = codes "platform_system"
variable_name PlatformVersion = codes "platform_version"
variable_name SysPlatform = codes "sys_platform"

-- a deprecated spelling is the modern variable
abbrev pub variable_of : MarkerValueString → TextVariable
variable_of text_keys.ImplementationName = ImplementationName
variable_of text_keys.OsName = OsName
variable_of text_keys.OsNameDeprecated = OsName
variable_of text_keys.PlatformMachine = PlatformMachine
variable_of text_keys.PlatformMachineDeprecated = PlatformMachine
variable_of text_keys.PlatformPythonImplementation = PlatformPythonImplementation
variable_of text_keys.PlatformPythonImplementationDeprecated = PlatformPythonImplementation
variable_of text_keys.PythonImplementationDeprecated = PlatformPythonImplementation
variable_of text_keys.PlatformRelease = PlatformRelease
variable_of text_keys.PlatformSystem = PlatformSystem
variable_of text_keys.PlatformVersion = PlatformVersion
variable_of text_keys.PlatformVersionDeprecated = PlatformVersion
variable_of text_keys.SysPlatform = SysPlatform
variable_of text_keys.SysPlatformDeprecated = SysPlatform

-- how a text key is written (PEP 508; the deprecated ones with a dot: PEP 345)
abbrev pub key_name : MarkerValueString → List ℕ
key_name text_keys.ImplementationName = codes "implementation_name"
key_name text_keys.OsName = codes "os_name"
key_name text_keys.OsNameDeprecated = codes "os.name"
key_name text_keys.PlatformMachine = codes "platform_machine"
key_name text_keys.PlatformMachineDeprecated = codes "platform.machine"
key_name text_keys.PlatformPythonImplementation = codes "platform_python_implementation"
key_name text_keys.PlatformPythonImplementationDeprecated = codes "platform.python_implementation"
key_name text_keys.PythonImplementationDeprecated = codes "python_implementation"
key_name text_keys.PlatformRelease = codes "platform_release"
key_name text_keys.PlatformSystem = codes "platform_system"
key_name text_keys.PlatformVersion = codes "platform_version"
key_name text_keys.PlatformVersionDeprecated = codes "platform.version"
key_name text_keys.SysPlatform = codes "sys_platform"
key_name text_keys.SysPlatformDeprecated = codes "sys.platform"

abbrev pub is_deprecated : MarkerValueString → Bool
is_deprecated text_keys.ImplementationName = false
is_deprecated text_keys.OsName = false
is_deprecated text_keys.OsNameDeprecated = true
is_deprecated text_keys.PlatformMachine = false
is_deprecated text_keys.PlatformMachineDeprecated = true
is_deprecated text_keys.PlatformPythonImplementation = false
is_deprecated text_keys.PlatformPythonImplementationDeprecated = true
is_deprecated text_keys.PythonImplementationDeprecated = true
is_deprecated text_keys.PlatformRelease = false
is_deprecated text_keys.PlatformSystem = false
is_deprecated text_keys.PlatformVersion = false
is_deprecated text_keys.PlatformVersionDeprecated = true
is_deprecated text_keys.SysPlatform = false
is_deprecated text_keys.SysPlatformDeprecated = true
