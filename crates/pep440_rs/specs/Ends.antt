-- Where the sets of specifiers begin and end.
use Rattle.std.specs.Prelude.{ℕ, List, [], ◌∷◌}
use Rattle.version_ranges.specs.Point.{Point, above, at, bottom}
use Rattle.pep440_version.specs.Order.{trimmed}
use Rattle.pep440_version.specs.Parts.{Parts, release_only}
use Rattle.pep440_specifier.specs.declared.operator.Operator.{Operator}
use Rattle.pep440_specifier.specs.declared.operator.Operator.TheVariants as operator
use Rattle.pep440_rs.specs.Bounds.{IsRelease}
use Rattle.pep440_rs.specs.Intervals.{front, raised}
use Rattle.pep440_rs.specs.PythonVersion.{first_minor, minor_release, next_minor}

-- the place at a release, and the place right above it
abbrev at_release : List ℕ → Point Parts
at_release r = at (release_only r)

abbrev above_release : List ℕ → Point Parts
above_release r = above (release_only r)

-- where the set of an operator and a release begins and ends
abbrev pub ends_of : Operator → List ℕ → List (Point Parts)
ends_of operator.Equal r = at_release r ∷ above_release r ∷ []
ends_of operator.ExactEqual r = at_release r ∷ above_release r ∷ []
ends_of operator.NotEqual r = at_release r ∷ above_release r ∷ []
ends_of operator.LessThan r = at_release r ∷ []
ends_of operator.LessThanEqual r = above_release r ∷ []
ends_of operator.GreaterThan r = above_release r ∷ []
ends_of operator.GreaterThanEqual r = at_release r ∷ []
ends_of operator.TildeEqual r = at_release r ∷ at_release (raised (front r)) ∷ []
ends_of operator.EqualStar r = at_release r ∷ at_release (raised r) ∷ []
ends_of operator.NotEqualStar r = at_release r ∷ at_release (raised r) ∷ []

-- where the versions from `M.m` up to `M.(m+1)` begin and end
abbrev minor_ends : List ℕ → List (Point Parts)
minor_ends r = at_release (minor_release r) ∷ at_release (next_minor r) ∷ []

-- where the set of a comparison of `python_version` begins and ends
abbrev pub python_ends_of : Operator → List ℕ → List (Point Parts)
python_ends_of operator.Equal r = minor_ends (trimmed r)
python_ends_of operator.ExactEqual r = minor_ends (trimmed r)
python_ends_of operator.NotEqual r = minor_ends (trimmed r)
python_ends_of operator.LessThan r = at_release (first_minor (trimmed r)) ∷ []
python_ends_of operator.LessThanEqual r = at_release (next_minor (trimmed r)) ∷ []
python_ends_of operator.GreaterThan r = at_release (next_minor (trimmed r)) ∷ []
python_ends_of operator.GreaterThanEqual r = at_release (first_minor (trimmed r)) ∷ []
python_ends_of operator.TildeEqual r = ends_of operator.TildeEqual r
python_ends_of operator.EqualStar r = ends_of operator.EqualStar r
python_ends_of operator.NotEqualStar r = ends_of operator.EqualStar r

-- a point at a release, or right above one
abbrev pub IsReleasePoint : Point Parts → Type 0
IsReleasePoint bottom = ⊥
IsReleasePoint (at v) = IsRelease v
IsReleasePoint (above v) = IsRelease v
