-- Whether a point is in a set depends on its order to the ends of the set.
use Rattle.std.proofs.Common.{◌≡◌, ◌&&◌, not, ℕ, Bool, List, arith}
use Rattle.std.specs.List.{AllByRecursion}
use Rattle.version_ranges.specs.Alike.{AreAlike}
use Rattle.version_ranges.specs.Point.{Point}
use Rattle.version_ranges.specs.Point.{is_from}
use Rattle.std.specs.declared.ops.Bound.TheVariants.{Unbounded}
use Rattle.pep440_version.specs.Order.{version_cmp}
use Rattle.pep440_version.specs.Parts.{Parts}
use Rattle.pep440_specifier.specs.declared.operator.Operator.{Operator}
use Rattle.pep440_specifier.specs.declared.operator.Operator.TheVariants as operator
use Rattle.pep440_rs.specs.Ends.{IsReleasePoint, ends_of, python_ends_of}
use Rattle.pep440_rs.specs.Intervals.{is_in}
use Rattle.pep440_rs.specs.PythonVersion.{python_is_in}
use Rattle.pep440_rs.proofs.Complements.{from_bottom}

module _ (p q : Point Parts) where
  -- from one end on, and before another one
  spanned : (a b c d : Bool) → a ≡ c → b ≡ d → (not a && b) ≡ (not c && d)
  spanned a b c d e f = λ i. not (e i) && f i

  -- both are from the beginning on
  below : (b d : Bool) → b ≡ d → (is_from version_cmp Unbounded p && b) ≡ (is_from version_cmp Unbounded q && d)
  below b d e = rw (from_bottom p, from_bottom q) e

  pub answers_alike : (o : Operator) (r : List ℕ) → AreAlike version_cmp p q (ends_of o r) → is_in o r p ≡ is_in o r q
  answers_alike o r h1 = grind arith

  pub python_answers_alike : (o : Operator) (r : List ℕ) → AreAlike version_cmp p q (python_ends_of o r) → python_is_in o r p ≡ python_is_in o r q
  python_answers_alike o r h1 = grind arith

pub ends_are_releases : (o : Operator) (r : List ℕ) → AllByRecursion IsReleasePoint (ends_of o r)
ends_are_releases o r = grind arith

pub python_ends_are_releases : (o : Operator) (r : List ℕ) → AllByRecursion IsReleasePoint (python_ends_of o r)
python_ends_are_releases o r = grind arith
