-- What a printed expression is read as.
use Rattle.std.proofs.Common.{ℕ, List, [], ◌∷◌, ◌++◌, IsUtf8, string_bytes}
use Rattle.std.specs.Str.{chars}
use Rattle.pep508_errors.specs.declared.warning.MarkerWarningKind.{MarkerWarningKind}
use Rattle.marker_words.specs.declared.key.TextVariable.{TextVariable}
use Rattle.marker_words.specs.declared.key.TextVariable.TheVariants.{ImplementationName, OsName, PlatformMachine, PlatformPythonImplementation, PlatformRelease, PlatformSystem, PlatformVersion, SysPlatform}
use Rattle.marker_words.specs.declared.key.MarkerValueString.{MarkerValueString}
use Rattle.marker_words.specs.declared.key.MarkerValueString.TheVariants as text_keys
use Rattle.marker_words.specs.Key.{variable_of}
use Rattle.marker_parts.specs.declared.expression.MarkerExpression.{MarkerExpression}
use Rattle.marker_parts.specs.declared.expression.MarkerExpression.TheVariants as expressions
use Rattle.marker_parts.specs.Comparison.{Compared, kept_with, extra_kinds}
use Rattle.marker_parts.specs.Expression.{Test, version, version_in, text, extra, extra_of}
use Rattle.marker_parts.specs.Print.{expression_text}

-- what may follow a printed expression: the end, a space, or `)`
pub data IsBehind : List ℕ → Type 0 where
  ends : IsBehind []
  space : {o : List ℕ} → IsBehind (32 ∷ o)
  closes : {o : List ℕ} → IsBehind (41 ∷ o)

-- an expression by its characters: the test that is read of it, and the kinds of its warnings
pub record Term : Type 0 where
  pub text : List ℕ
  pub test : Test
  pub kinds : List MarkerWarningKind

-- the text is read so, whatever may follow it
pub record ReadsAs (p : Term) : Type 0 where
  pub compared : (o : List ℕ) → IsBehind o → Compared (p.text ++ o) o (kept_with p.test p.kinds)

-- the bytes are a text that is read so
pub record IsRead (bytes : List ℕ) (test : Test) (kinds : List MarkerWarningKind) : Type 0 where
  pub utf8 : IsUtf8 bytes
  pub reads : ReadsAs (record { text = chars bytes; test = test; kinds = kinds })

-- the key that a variable is printed as
abbrev pub modern : TextVariable → MarkerValueString
modern ImplementationName = text_keys.ImplementationName
modern OsName = text_keys.OsName
modern PlatformMachine = text_keys.PlatformMachine
modern PlatformPythonImplementation = text_keys.PlatformPythonImplementation
modern PlatformRelease = text_keys.PlatformRelease
modern PlatformSystem = text_keys.PlatformSystem
modern PlatformVersion = text_keys.PlatformVersion
modern SysPlatform = text_keys.SysPlatform

abbrev pub read_test : MarkerExpression → Test
read_test (expressions.Version key s) = version key s
read_test (expressions.VersionIn key versions negated) = version_in key versions.items negated
read_test (expressions.String key operator value) = text (modern (variable_of key)) operator (string_bytes value)
read_test (expressions.Extra operator x) = extra operator (extra_of x)

abbrev pub read_kinds : MarkerExpression → List MarkerWarningKind
read_kinds (expressions.Version key s) = []
read_kinds (expressions.VersionIn key versions negated) = []
read_kinds (expressions.String key operator value) = []
read_kinds (expressions.Extra operator x) = extra_kinds (extra_of x)

abbrev pub term_of : MarkerExpression → Term
term_of e = record { text = chars (expression_text e); test = read_test e; kinds = read_kinds e }

abbrev pub IsPrinted : MarkerExpression → Type 0
IsPrinted e = IsRead (expression_text e) (read_test e) (read_kinds e)
