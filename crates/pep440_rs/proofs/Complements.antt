-- The set of a negated operator is the complement.
use Rattle.std.proofs.Common.{◌≡◌, ◌&&◌, not, Bool, true, ℕ, List, Some, refl, subst, arith}
use Rattle.std.specs.declared.ops.Bound.TheVariants.{Included, Excluded, Unbounded}
use Rattle.version_ranges.specs.Point.{Point, above, at, is_from, point_lt}
use Rattle.pep440_specifier.specs.Operator.{negated}
use Rattle.pep440_specifier.specs.declared.operator.Operator.{Operator}
use Rattle.pep440_specifier.specs.declared.operator.Operator.TheVariants as operator
use Rattle.pep440_version.specs.Order.{trimmed, version_cmp}
use Rattle.pep440_version.specs.Parts.{Parts, release_only}
use Rattle.pep440_rs.specs.Intervals.{is_between, is_in}
use Rattle.pep440_rs.specs.PythonVersion.{first_minor, is_in_star, is_same_minor, next_minor, python_is_in}

twice : (b : Bool) → b ≡ not (not b)
twice b = grind arith

-- each point is from the beginning on
pub from_bottom : (p : Point Parts) → is_from version_cmp Unbounded p ≡ true
from_bottom p = grind arith

rest : (a b : Bool) → a ≡ true → (not b && true) ≡ not (a && b)
rest a b h1 = grind arith

front_of : (a b : Bool) → a ≡ true → (a && b) ≡ not (not b && true)
front_of a b h1 = grind arith

-- what is from a release on, and what is below it
at_half : (r : List ℕ) (p : Point Parts) → is_between (Included r) Unbounded p ≡ not (is_between Unbounded (Excluded r) p)
at_half r p = rest (is_from version_cmp Unbounded p) (point_lt version_cmp p (at (release_only r))) (from_bottom p)

-- what is above a release, and what is up to it
above_half : (r : List ℕ) (p : Point Parts) → is_between (Excluded r) Unbounded p ≡ not (is_between Unbounded (Included r) p)
above_half r p = rest (is_from version_cmp Unbounded p) (point_lt version_cmp p (above (release_only r))) (from_bottom p)

below_half : (r : List ℕ) (p : Point Parts) → is_between Unbounded (Excluded r) p ≡ not (is_between (Included r) Unbounded p)
below_half r p = front_of (is_from version_cmp Unbounded p) (point_lt version_cmp p (at (release_only r))) (from_bottom p)

until_half : (r : List ℕ) (p : Point Parts) → is_between Unbounded (Included r) p ≡ not (is_between (Excluded r) Unbounded p)
until_half r p = front_of (is_from version_cmp Unbounded p) (point_lt version_cmp p (above (release_only r))) (from_bottom p)

some-operator : (m n : Operator) → Some m ≡ Some n → m ≡ n
some-operator m n e = cc e

module _ (r : List ℕ) (p : Point Parts) where
  -- what holds of the negated operator holds of each that is the same
  at_negated : (o m n : Operator) → Some m ≡ Some n → is_in m r p ≡ not (is_in o r p) → is_in n r p ≡ not (is_in o r p)
  at_negated o m n e h = subst (λ (k : Operator). is_in k r p ≡ not (is_in o r p)) (some-operator m n e) h

  pub complements : (o n : Operator) → negated o ≡ Some n → is_in n r p ≡ not (is_in o r p)
  complements operator.Equal n e = at_negated operator.Equal operator.NotEqual n e refl
  complements operator.EqualStar n e = at_negated operator.EqualStar operator.NotEqualStar n e refl
  complements operator.ExactEqual n e = at_negated operator.ExactEqual operator.NotEqual n e refl
  complements operator.NotEqual n e = at_negated operator.NotEqual operator.Equal n e (twice _)
  complements operator.NotEqualStar n e = at_negated operator.NotEqualStar operator.EqualStar n e (twice _)
  complements operator.TildeEqual n e = cc e
  complements operator.LessThan n e = at_negated operator.LessThan operator.GreaterThanEqual n e (at_half r p)
  complements operator.LessThanEqual n e = at_negated operator.LessThanEqual operator.GreaterThan n e (above_half r p)
  complements operator.GreaterThan n e = at_negated operator.GreaterThan operator.LessThanEqual n e (until_half r p)
  complements operator.GreaterThanEqual n e = at_negated operator.GreaterThanEqual operator.LessThan n e (below_half r p)

  at_python : (o m n : Operator) → Some m ≡ Some n → python_is_in m r p ≡ not (python_is_in o r p) → python_is_in n r p ≡ not (python_is_in o r p)
  at_python o m n e h = subst (λ (k : Operator). python_is_in k r p ≡ not (python_is_in o r p)) (some-operator m n e) h

  pub python_complements : (o n : Operator) → negated o ≡ Some n → python_is_in n r p ≡ not (python_is_in o r p)
  python_complements operator.Equal n e = at_python operator.Equal operator.NotEqual n e refl
  python_complements operator.EqualStar n e = at_python operator.EqualStar operator.NotEqualStar n e refl
  python_complements operator.ExactEqual n e = at_python operator.ExactEqual operator.NotEqual n e refl
  python_complements operator.NotEqual n e = at_python operator.NotEqual operator.Equal n e (twice (is_same_minor (trimmed r) p))
  python_complements operator.NotEqualStar n e = at_python operator.NotEqualStar operator.EqualStar n e (twice (is_in_star r p))
  python_complements operator.TildeEqual n e = cc e
  python_complements operator.LessThan n e = at_python operator.LessThan operator.GreaterThanEqual n e (at_half (first_minor (trimmed r)) p)
  python_complements operator.LessThanEqual n e = at_python operator.LessThanEqual operator.GreaterThan n e (at_half (next_minor (trimmed r)) p)
  python_complements operator.GreaterThan n e = at_python operator.GreaterThan operator.LessThanEqual n e (below_half (next_minor (trimmed r)) p)
  python_complements operator.GreaterThanEqual n e = at_python operator.GreaterThanEqual operator.LessThan n e (below_half (first_minor (trimmed r)) p)
