-- Environments with the same values are equal.
use Rattle.std.proofs.Common.{◌≡◌, ℕ, true, List, string_bytes, sym, ap, ◌∙◌, arith}
use Rattle.std.specs.Prelude.{nat_eq}
use Rattle.std.specs.Cmp.{tied_itself}
use Rattle.std.specs.Cmp.Lexicographic.{pointwise, nat_list_eq_equiv}
use Rattle.std.specs.Ordering.{eq_by_cmp, is_eq}
use Rattle.std.proofs.lemmas.Bool.{and_from}
use Rattle.pep440_version.specs.Order.{version_cmp}
use Rattle.pep440_version.specs.OrderLaws.{version_total}
use Rattle.pep440_version.specs.Parts.{Parts}
use Rattle.marker_words.specs.declared.key.MarkerValueVersion.TheVariants.{ImplementationVersion, PythonFullVersion, PythonVersion}
use Rattle.marker_words.specs.declared.key.TextVariable.{TextVariable}
use Rattle.marker_words.specs.declared.key.TextVariable.TheVariants.{ImplementationName, OsName, PlatformMachine, PlatformPythonImplementation, PlatformRelease, PlatformSystem, PlatformVersion, SysPlatform}
use Rattle.marker_environment.specs.declared.environment.MarkerEnvironment.{MarkerEnvironment}
use Rattle.marker_environment.specs.declared.string_version.StringVersion.{StringVersion}
use Rattle.marker_environment.specs.Environment.{HasSameValues, values_of, text_of}
use Rattle.marker_environment.specs.Written.{written}
use Rattle.marker_environment.specs.contracts.environment.MarkerEnvironmentPartialEq.TheImpl.{ghosts as environment_partial_eq}
use Rattle.marker_environment.specs.contracts.string_version.StringVersionPartialEq.TheImpl.{ghosts as version_partial_eq}

same_bytes : (s t : List ℕ) → s ≡ t → pointwise nat_eq s t ≡ true
same_bytes s t e = ap (pointwise nat_eq s) (sym e) ∙ nat_list_eq_equiv.refl s

same_parts : (v w : Parts) → v ≡ w → eq_by_cmp version_cmp v w ≡ true
same_parts v w e = ap (λ (u : Parts). is_eq (version_cmp v u)) (sym e) ∙ ap is_eq (tied_itself version_total v)

-- versions with the same text are equal
pub same_written : (v w : StringVersion) → written v ≡ written w → version_partial_eq.eq v w ≡ true
same_written v w h1 = grind (arith, and_from, string_bytes, same_bytes, same_parts)

pub equal : (e f : MarkerEnvironment) → HasSameValues (values_of e) (values_of f) → environment_partial_eq.eq e f ≡ true
equal e f same =
    let text : (x : TextVariable) → pointwise nat_eq (text_of e x) (text_of f x) ≡ true = λ x. same_bytes (text_of e x) (text_of f x) (same.0 x) in
    let implementation = same_written e.implementation_version f.implementation_version (same.1 ImplementationVersion) in
    let full = same_written e.python_full_version f.python_full_version (same.1 PythonFullVersion) in
    let python = same_written e.python_version f.python_version (same.1 PythonVersion) in
    and_from _ _ (text ImplementationName) (
    and_from _ _ implementation (
    and_from _ _ (text OsName) (
    and_from _ _ (text PlatformMachine) (
    and_from _ _ (text PlatformPythonImplementation) (
    and_from _ _ (text PlatformRelease) (
    and_from _ _ (text PlatformSystem) (
    and_from _ _ (text PlatformVersion) (
    and_from _ _ full (
    and_from _ _ python (text SysPlatform))))))))))
