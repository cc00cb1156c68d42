-- Values of an environment of which some are known, and the comparisons that hold there.
use Rattle.std.specs.Prelude.{◌≡◌, ℕ, All, true, false, List, Option, Some, option_map, string_bytes}
use Rattle.version_ranges.specs.Point.{at}
use Rattle.pep440_version.specs.Parts.{Parts}
use Rattle.marker_words.specs.declared.key.TextVariable.{TextVariable}
use Rattle.marker_words.specs.declared.key.TextVariable.TheVariants.{ImplementationName, OsName, PlatformMachine, PlatformPythonImplementation, PlatformRelease, PlatformSystem, PlatformVersion, SysPlatform}
use Rattle.marker_words.specs.declared.key.VersionVariable.{VersionVariable}
use Rattle.marker_words.specs.declared.key.VersionVariable.TheVariants.{ImplementationVersion, PythonFullVersion}
use Rattle.marker_environment.specs.Substring.{is_part_of}
use Rattle.marker_environment.specs.Valuation.{Valuation}
use Rattle.marker_parts.specs.Expression.{Test, holds, test_of}
use Rattle.marker_parts.specs.declared.expression.MarkerExpression.{MarkerExpression}
use Rattle.marker_walks.specs.Possible.{is_listed}
use Rattle.marker_answers.specs.declared.known.KnownValues.{KnownValues}

abbrev pub known_text : KnownValues → TextVariable → Option (List ℕ)
known_text k ImplementationName = option_map string_bytes k.implementation_name
known_text k OsName = option_map string_bytes k.os_name
known_text k PlatformMachine = option_map string_bytes k.platform_machine
known_text k PlatformPythonImplementation =
    option_map string_bytes k.platform_python_implementation
known_text k PlatformRelease = option_map string_bytes k.platform_release
known_text k PlatformSystem = option_map string_bytes k.platform_system
known_text k PlatformVersion = option_map string_bytes k.platform_version
known_text k SysPlatform = option_map string_bytes k.sys_platform

abbrev pub known_version : KnownValues → VersionVariable → Option Parts
known_version k ImplementationVersion = k.implementation_version
known_version k PythonFullVersion = k.python_full_version

-- The valuation has the known values, computes substring tests of known texts on them, and asks for
-- exactly these extras.
pub record HasValues (known : KnownValues) (asked : List (List ℕ)) (v : Valuation) : Type 0 where
  pub versions : (x : VersionVariable) (p : Parts) → known_version known x ≡ Some p
      → v.version x ≡ at p
  pub texts : (x : TextVariable) (t : List ℕ) → known_text known x ≡ Some t → v.text x ≡ at t
  pub inside : (x : TextVariable) (t s : List ℕ) → known_text known x ≡ Some t
      → v.inside x s ≡ is_part_of t s
  pub contains : (x : TextVariable) (t s : List ℕ) → known_text known x ≡ Some t
      → v.contains x s ≡ is_part_of s t
  pub extras : (name : List ℕ) → v.extra name ≡ is_listed asked name
  pub arbitrary : (text : List ℕ) → v.arbitrary text ≡ false

-- the comparison holds wherever the keys have their known values and exactly these extras are asked
-- for
abbrev pub IsFact : KnownValues → List (List ℕ) → Test → Type 0
IsFact known asked test = (v : Valuation) → HasValues known asked v → holds test v ≡ true

abbrev pub IsFactOf : KnownValues → List (List ℕ) → MarkerExpression → Type 0
IsFactOf known asked fact = IsFact known asked (test_of fact)

abbrev pub AreFacts : KnownValues → List (List ℕ) → List MarkerExpression → Type 0
AreFacts known asked facts = All (IsFactOf known asked) facts
