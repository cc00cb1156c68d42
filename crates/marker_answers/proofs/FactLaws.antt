-- Comparisons that hold where values are known.
use Rattle.std.proofs.Common.{◌≡◌, ℕ, Bool, true, false, not, ◌&&◌, ◌||◌, List, [], ◌∷◌, Option, Some, refl, sym, ap, subst, ◌∙◌}
use Rattle.std.specs.Prelude.{if◌then◌else◌}
use Rattle.std.specs.Ordering.{is_eq, is_lt, ordering_then}
use Rattle.std.specs.declared.cmp.Ordering.{Ordering}
use Rattle.std.specs.declared.cmp.Ordering.TheVariants.{Less}
use Rattle.std.specs.Cmp.Lexicographic.{nat_list_cmp_total}
use Rattle.std.proofs.lemmas.Cmp.{tied_itself}
use Rattle.version_ranges.specs.Point.{Point, at, point_cmp}
use Rattle.pep440_version.specs.Order.{version_cmp}
use Rattle.pep440_version.specs.OrderLaws.{version_total}
use Rattle.pep440_version.specs.Parts.{Parts}
use Rattle.pep440_rs.specs.Lists as lists
use Rattle.marker_words.specs.Compare.{text_cmp}
use Rattle.marker_words.specs.Key.{variable_of, version_variable_key}
use Rattle.marker_words.specs.declared.key.TextVariable.{TextVariable}
use Rattle.marker_words.specs.declared.key.TextVariable.TheVariants.{ImplementationName, OsName, PlatformMachine, PlatformPythonImplementation, PlatformRelease, PlatformSystem, PlatformVersion, SysPlatform}
use Rattle.marker_words.specs.declared.key.VersionVariable.{VersionVariable}
use Rattle.marker_words.specs.declared.key.VersionVariable.TheVariants.{ImplementationVersion, PythonFullVersion}
use Rattle.marker_words.specs.declared.operator.ExtraOperator.TheVariants as extra_operators
use Rattle.marker_words.specs.declared.operator.MarkerOperator.TheVariants as operators
use Rattle.marker_environment.specs.Substring.{is_part_of}
use Rattle.marker_environment.specs.Valuation.{Valuation}
use Rattle.marker_parts.specs.Expression as asked
use Rattle.marker_parts.specs.Expression.{Test, holds}
use Rattle.marker_walks.specs.Possible.{is_listed}
use Rattle.marker_graph.specs.Kind.{modern_key}
use Rattle.marker_answers.specs.declared.known.KnownValues.{KnownValues}
use Rattle.marker_answers.specs.Known.{known_text, known_version, HasValues, IsFact}

key_back : (x : TextVariable) → variable_of (modern_key x) ≡ x
key_back ImplementationName = refl
key_back OsName = refl
key_back PlatformMachine = refl
key_back PlatformPythonImplementation = refl
key_back PlatformRelease = refl
key_back PlatformSystem = refl
key_back PlatformVersion = refl
key_back SysPlatform = refl

-- the value of a text key
pub text_holds : (known : KnownValues) (extras : List (List ℕ)) (x : TextVariable) (t : List ℕ) → known_text known x ≡ Some t → IsFact known extras (asked.text (modern_key x) operators.Equal t)
text_holds known extras x t e v h =
    ap (λ y. is_eq (point_cmp text_cmp (v.text y) (at t))) (key_back x)
    ∙ ap (λ p. is_eq (point_cmp text_cmp p (at t))) (h.texts x t e)
    ∙ ap is_eq (tied_itself nat_list_cmp_total t)

-- the value of a version key
one_listed : (p : Parts) → lists.is_listed (p ∷ []) (at p) ≡ true
one_listed p = ap (λ o. (not (is_lt o) && is_lt (ordering_then o Less)) || false) (tied_itself version_total p)

pub version_holds : (known : KnownValues) (extras : List (List ℕ)) (x : VersionVariable) (p : Parts) → known_version known x ≡ Some p → IsFact known extras (asked.version_in (version_variable_key x) (p ∷ []) false)
version_holds known extras ImplementationVersion p e v h = ap (lists.is_listed (p ∷ [])) (h.versions ImplementationVersion p e) ∙ one_listed p
version_holds known extras PythonFullVersion p e v h = ap (lists.is_listed (p ∷ [])) (h.versions PythonFullVersion p e) ∙ one_listed p

-- a comparison that is another one
pub fact_as : (known : KnownValues) (extras : List (List ℕ)) (test other : Test) → test ≡ other → IsFact known extras other → IsFact known extras test
fact_as known extras test other e f = let P : Test → Type 0 = λ t. IsFact known extras t in subst P (sym e) f
