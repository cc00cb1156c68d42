-- The names of keys: each is known by its name, is written in ASCII, and begins with a small letter.
use Rattle.std.specs.Cmp.Lexicographic.{pointwise}
use Rattle.std.proofs.Common.{◌≡◌, ℕ, ◌≤◌, false, cond, List, ◌∷◌, refl, sym, ap, ◌∙◌, lit≤, arith}
use Rattle.std.specs.Prelude.{codes, encode_utf8_all, nat_eq}
use Rattle.pep508_text.specs.Class.{holds}
use Rattle.pep508_text.specs.declared.classes.Class.TheVariants.{Space}
use Rattle.marker_words.specs.declared.key.MarkerValueVersion.{MarkerValueVersion}
use Rattle.marker_words.specs.declared.key.MarkerValueVersion.TheVariants as version_keys
use Rattle.marker_words.specs.declared.key.MarkerValueString.{MarkerValueString}
use Rattle.marker_words.specs.declared.key.MarkerValueString.TheVariants as text_keys
use Rattle.marker_words.specs.Key.{version_key_name, key_name}
use Rattle.marker_words.specs.Lexical.{Value, version_key, text_key, extra}

-- a text that begins with a small letter
pub record Lettered (r : List ℕ) : Type 0 where
  pub letter : ℕ
  pub others : List ℕ
  pub parts : r ≡ letter ∷ others
  pub small : 97 ≤ letter
  pub plain : holds Space letter ≡ false

pub version_key_lettered : (key : MarkerValueVersion) → Lettered (version_key_name key)
version_key_lettered key = grind arith

pub key_lettered : (key : MarkerValueString) → Lettered (key_name key)
key_lettered key = grind arith

pub extra_lettered : Lettered (codes "extra")
extra_lettered = record { letter = 101; others = _; parts = refl; small = lit≤ tt; plain = refl }

-- a name's characters are its bytes
pub ascii_version_key : (key : MarkerValueVersion) → encode_utf8_all (version_key_name key) ≡ version_key_name key
unfolding lib.Utf8.encode
ascii_version_key version_keys.ImplementationVersion = refl
ascii_version_key version_keys.PythonFullVersion = refl
ascii_version_key version_keys.PythonVersion = refl

pub ascii_key : (key : MarkerValueString) → encode_utf8_all (key_name key) ≡ key_name key
unfolding lib.Utf8.encode
ascii_key text_keys.ImplementationName = refl
ascii_key text_keys.OsName = refl
ascii_key text_keys.OsNameDeprecated = refl
ascii_key text_keys.PlatformMachine = refl
ascii_key text_keys.PlatformMachineDeprecated = refl
ascii_key text_keys.PlatformPythonImplementation = refl
ascii_key text_keys.PlatformPythonImplementationDeprecated = refl
ascii_key text_keys.PythonImplementationDeprecated = refl
ascii_key text_keys.PlatformRelease = refl
ascii_key text_keys.PlatformSystem = refl
ascii_key text_keys.PlatformVersion = refl
ascii_key text_keys.PlatformVersionDeprecated = refl
ascii_key text_keys.SysPlatform = refl
ascii_key text_keys.SysPlatformDeprecated = refl

pub ascii_extra : encode_utf8_all (codes "extra") ≡ codes "extra"
unfolding lib.Utf8.encode
ascii_extra = refl

-- the value of a name
named_value : List ℕ → Value
named_value r =
    cond (pointwise nat_eq r (codes "implementation_version")) (version_key version_keys.ImplementationVersion) (
    cond (pointwise nat_eq r (codes "python_full_version")) (version_key version_keys.PythonFullVersion) (
    cond (pointwise nat_eq r (codes "python_version")) (version_key version_keys.PythonVersion) (
    cond (pointwise nat_eq r (codes "implementation_name")) (text_key text_keys.ImplementationName) (
    cond (pointwise nat_eq r (codes "os_name")) (text_key text_keys.OsName) (
    cond (pointwise nat_eq r (codes "os.name")) (text_key text_keys.OsNameDeprecated) (
    cond (pointwise nat_eq r (codes "platform_machine")) (text_key text_keys.PlatformMachine) (
    cond (pointwise nat_eq r (codes "platform.machine")) (text_key text_keys.PlatformMachineDeprecated) (
    cond (pointwise nat_eq r (codes "platform_python_implementation")) (text_key text_keys.PlatformPythonImplementation) (
    cond (pointwise nat_eq r (codes "platform.python_implementation")) (text_key text_keys.PlatformPythonImplementationDeprecated) (
    cond (pointwise nat_eq r (codes "python_implementation")) (text_key text_keys.PythonImplementationDeprecated) (
    cond (pointwise nat_eq r (codes "platform_release")) (text_key text_keys.PlatformRelease) (
    cond (pointwise nat_eq r (codes "platform_system")) (text_key text_keys.PlatformSystem) (
    cond (pointwise nat_eq r (codes "platform_version")) (text_key text_keys.PlatformVersion) (
    cond (pointwise nat_eq r (codes "platform.version")) (text_key text_keys.PlatformVersionDeprecated) (
    cond (pointwise nat_eq r (codes "sys_platform")) (text_key text_keys.SysPlatform) (
    cond (pointwise nat_eq r (codes "sys.platform")) (text_key text_keys.SysPlatformDeprecated) (
    extra)))))))))))))))))

named_value-version : (key : MarkerValueVersion) → named_value (version_key_name key) ≡ version_key key
unfolding named_value
named_value-version version_keys.ImplementationVersion = refl
named_value-version version_keys.PythonFullVersion = refl
named_value-version version_keys.PythonVersion = refl

named_value-text : (key : MarkerValueString) → named_value (key_name key) ≡ text_key key
unfolding named_value
named_value-text text_keys.ImplementationName = refl
named_value-text text_keys.OsName = refl
named_value-text text_keys.OsNameDeprecated = refl
named_value-text text_keys.PlatformMachine = refl
named_value-text text_keys.PlatformMachineDeprecated = refl
named_value-text text_keys.PlatformPythonImplementation = refl
named_value-text text_keys.PlatformPythonImplementationDeprecated = refl
named_value-text text_keys.PythonImplementationDeprecated = refl
named_value-text text_keys.PlatformRelease = refl
named_value-text text_keys.PlatformSystem = refl
named_value-text text_keys.PlatformVersion = refl
named_value-text text_keys.PlatformVersionDeprecated = refl
named_value-text text_keys.SysPlatform = refl
named_value-text text_keys.SysPlatformDeprecated = refl

named_value-extra : named_value (codes "extra") ≡ extra
unfolding named_value
named_value-extra = refl

-- a name with its value
pub record Names (name : List ℕ) (value : Value) : Type 0 where
  value_is : named_value name ≡ value
  pub lettered : Lettered name
  pub ascii : encode_utf8_all name ≡ name

pub version_key_names : (key : MarkerValueVersion) → Names (version_key_name key) (version_key key)
version_key_names key = record { value_is = named_value-version key; lettered = version_key_lettered key; ascii = ascii_version_key key }

pub key_names : (key : MarkerValueString) → Names (key_name key) (text_key key)
key_names key = record { value_is = named_value-text key; lettered = key_lettered key; ascii = ascii_key key }

pub extra_names : Names (codes "extra") extra
extra_names = record { value_is = named_value-extra; lettered = extra_lettered; ascii = ascii_extra }

-- one value has the name
pub names_same : {name other : List ℕ} {value same : Value} → Names name value → Names other same → name ≡ other → value ≡ same
names_same a b e = sym a.value_is ∙ ap named_value e ∙ b.value_is
