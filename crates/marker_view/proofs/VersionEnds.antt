-- The truth of plain comparisons of versions may change only at releases.
use Rattle.std.proofs.Common.{◌≡◌, Bool, not, ◌&&◌, ◌||◌, List, [], ◌∷◌, refl, ap, ◌∙◌, arith}
use Rattle.std.specs.List.{AllByRecursion, list_any}
use Rattle.version_ranges.specs.Alike.{AreAlike}
use Rattle.version_ranges.specs.Point.{Point, at, above}
use Rattle.pep440_version.specs.Order.{version_cmp}
use Rattle.pep440_version.specs.Parts.{Parts, release_only}
use Rattle.pep440_rs.specs.Bounds.{IsRelease}
use Rattle.pep440_rs.specs.Ends.{IsReleasePoint, ends_of, python_ends_of}
use Rattle.pep440_rs.specs.Lists.{is_listed}
use Rattle.pep440_rs.specs.PythonVersion.{is_in_minor, minor_release, next_minor}
use Rattle.pep440_rs.proofs.Ends.{answers_alike, python_answers_alike}
use Rattle.marker_words.specs.declared.key.MarkerValueVersion.{MarkerValueVersion}
use Rattle.marker_words.specs.declared.key.MarkerValueVersion.TheVariants.{ImplementationVersion, PythonFullVersion, PythonVersion}
use Rattle.marker_parts.specs.Expression.{holds_in, holds_version}
use Rattle.pep440_specifier.specs.Specifier.{Specifier}

abbrev pub specifier_ends : MarkerValueVersion → Specifier → List (Point Parts)
specifier_ends ImplementationVersion s = ends_of s.operator s.version.release
specifier_ends PythonFullVersion s = ends_of s.operator s.version.release
specifier_ends PythonVersion s = python_ends_of s.operator s.version.release

abbrev listed_ends : List Parts → List (Point Parts)
listed_ends [] = []
listed_ends (v ∷ vs) = at v ∷ above v ∷ listed_ends vs

abbrev minor_listed_ends : List Parts → List (Point Parts)
minor_listed_ends [] = []
minor_listed_ends (v ∷ vs) = at (release_only (minor_release v.release)) ∷ at (release_only (next_minor v.release)) ∷ minor_listed_ends vs

abbrev pub list_ends : MarkerValueVersion → List Parts → List (Point Parts)
list_ends ImplementationVersion vs = listed_ends vs
list_ends PythonFullVersion vs = listed_ends vs
list_ends PythonVersion vs = minor_listed_ends vs

pub specifier_releases : (key : MarkerValueVersion) (s : Specifier) → AllByRecursion IsReleasePoint (specifier_ends key s)
specifier_releases key s = grind arith

listed_releases : (vs : List Parts) → AllByRecursion IsRelease vs → AllByRecursion IsReleasePoint (listed_ends vs)
listed_releases [] a = tt
listed_releases (v ∷ vs) a = (a.0, (a.0, listed_releases vs a.1))

minor_releases : (vs : List Parts) → AllByRecursion IsReleasePoint (minor_listed_ends vs)
minor_releases [] = tt
minor_releases (v ∷ vs) = (refl, (refl, minor_releases vs))

pub list_releases : (key : MarkerValueVersion) (vs : List Parts) → AllByRecursion IsRelease vs → AllByRecursion IsReleasePoint (list_ends key vs)
list_releases key vs h1 = grind (arith, listed_releases, minor_releases)

module _ (p q : Point Parts) where
  pub specifier_alike : (key : MarkerValueVersion) (s : Specifier) → AreAlike version_cmp p q (specifier_ends key s) → holds_version key s p ≡ holds_version key s q
  specifier_alike key s h1 = grind (arith, answers_alike, python_answers_alike)

  -- between two points, as `not before the first` and `before the second`
  between : (a b c d : Bool) → a ≡ c → b ≡ d → (not a && b) ≡ (not c && d)
  between a b c d e f = ap (λ x. not x && b) e ∙ ap (λ x. not c && x) f

  either_alike : (a b c d : Bool) → a ≡ c → b ≡ d → (a || b) ≡ (c || d)
  either_alike a b c d e f = ap (λ x. x || b) e ∙ ap (λ x. c || x) f

  listed_alike : (vs : List Parts) → AreAlike version_cmp p q (listed_ends vs) → is_listed vs p ≡ is_listed vs q
  listed_alike [] a = refl
  listed_alike (v ∷ vs) a = either_alike _ _ _ _ (between _ _ _ _ a.0 a.1.0) (listed_alike vs a.1.1)

  minor_alike : (vs : List Parts) → AreAlike version_cmp p q (minor_listed_ends vs) → list_any (λ v. is_in_minor v.release p) vs ≡ list_any (λ v. is_in_minor v.release q) vs
  minor_alike [] a = refl
  minor_alike (v ∷ vs) a = either_alike _ _ _ _ (between _ _ _ _ a.0 a.1.0) (minor_alike vs a.1.1)

  pub list_alike : (key : MarkerValueVersion) (vs : List Parts) → AreAlike version_cmp p q (list_ends key vs) → holds_in key vs p ≡ holds_in key vs q
  list_alike key vs h1 = grind (arith, listed_alike, not, minor_alike)
