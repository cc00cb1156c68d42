-- The sets of full versions of Python of comparisons of `python_version`. `python_version` is `M.m`
-- of a full version (PEP 508, "Environment Markers"); what a comparison with it means for the full
-- version is this project's own.
use Rattle.std.specs.Prelude.{ℕ, Bool, not, ◌&&◌, if◌then◌else◌, nat_lt, List, [], ◌∷◌, length, get_or, None, Option, Some}
use Rattle.std.specs.declared.ops.Bound.TheVariants.{Included, Excluded, Unbounded}
use Rattle.version_ranges.specs.Point.{Point}
use Rattle.pep440_version.specs.Order.{trimmed}
use Rattle.pep440_version.specs.Parts.{Parts}
use Rattle.pep440_specifier.specs.declared.operator.Operator.{Operator}
use Rattle.pep440_specifier.specs.declared.operator.Operator.TheVariants as operator
use Rattle.pep440_rs.specs.Intervals.{IsGreatest, is_between, is_in, raised, raised_number}

-- the second number, 0 without one: `M` counts as `M.0`
abbrev pub minor_number : List ℕ → ℕ
minor_number r = get_or r 1 0

-- `M.m`
abbrev pub minor_release : List ℕ → List ℕ
minor_release r = get_or r 0 0 ∷ minor_number r ∷ []

-- `M.(m+1)`
abbrev pub next_minor : List ℕ → List ℕ
next_minor r = raised (minor_release r)

-- whether a release has more numbers than `python_version` has
abbrev pub has_more : List ℕ → Bool
has_more r = nat_lt 2 (length r)

-- the full versions from `M.m` up to `M.(m+1)`
abbrev pub is_in_minor : List ℕ → Point Parts → Bool
is_in_minor r p = is_between (Included (minor_release r)) (Excluded (next_minor r)) p

-- the full versions whose `python_version` is a release: none has one of more than two numbers
abbrev pub is_same_minor : List ℕ → Point Parts → Bool
is_same_minor r p = not (has_more r) && is_in_minor r p

-- the full versions whose `python_version` begins with a release
abbrev pub is_in_star : List ℕ → Point Parts → Bool
is_in_star r p = not (has_more r) && is_in operator.EqualStar r p

-- the full versions that a comparison takes as it is written, with at most two numbers
abbrev pub is_in_written : Operator → List ℕ → Point Parts → Bool
is_in_written o r = λ p. not (has_more r) && is_in o r p

-- the first `python_version` that is not below a release
abbrev pub first_minor : List ℕ → List ℕ
first_minor r = if has_more r then next_minor r else minor_release r

-- whether a point is in the set of an operator and a release
abbrev pub python_is_in : Operator → List ℕ → Point Parts → Bool
python_is_in operator.Equal r p = is_same_minor (trimmed r) p
python_is_in operator.ExactEqual r p = is_same_minor (trimmed r) p
python_is_in operator.NotEqual r p = not (is_same_minor (trimmed r) p)
python_is_in operator.LessThan r p = is_between Unbounded (Excluded (first_minor (trimmed r))) p
python_is_in operator.LessThanEqual r p = is_between Unbounded (Excluded (next_minor (trimmed r))) p
python_is_in operator.GreaterThan r p = is_between (Included (next_minor (trimmed r))) Unbounded p
python_is_in operator.GreaterThanEqual r p =
    is_between (Included (first_minor (trimmed r))) Unbounded p
python_is_in operator.TildeEqual r p = not (has_more r) && is_in operator.TildeEqual r p
python_is_in operator.EqualStar r p = is_in_star r p
python_is_in operator.NotEqualStar r p = not (is_in_star r p)

-- the number that a comparison with at most two numbers raises, and the one with more
abbrev pub raised_by : List ℕ → Option ℕ → Option ℕ → Option ℕ
raised_by r few more = if has_more r then more else few

-- `m`, if `M.(m+1)` is an end
abbrev pub minor_raised : List ℕ → Option ℕ
minor_raised r = Some (minor_number r)

-- the number that the end of a minor raises, if the release has at most two numbers
abbrev pub same_minor_raised : List ℕ → Option ℕ
same_minor_raised r = raised_by r (minor_raised r) None

-- the number that the first `python_version` raises, which is not below a release
abbrev pub first_minor_raised : List ℕ → Option ℕ
first_minor_raised r = raised_by r None (minor_raised r)

-- the number that a comparison raises as it is written
abbrev pub written_raised : Operator → List ℕ → Option ℕ
written_raised o r = raised_by r (raised_number o r) None

-- the number that a comparison raises, if any
abbrev pub python_raised_number : Operator → List ℕ → Option ℕ
python_raised_number operator.Equal r = raised_by (trimmed r) (minor_raised (trimmed r)) None
python_raised_number operator.ExactEqual r = raised_by (trimmed r) (minor_raised (trimmed r)) None
python_raised_number operator.NotEqual r = raised_by (trimmed r) (minor_raised (trimmed r)) None
python_raised_number operator.LessThan r = raised_by (trimmed r) None (minor_raised (trimmed r))
python_raised_number operator.LessThanEqual r = minor_raised (trimmed r)
python_raised_number operator.GreaterThan r = minor_raised (trimmed r)
python_raised_number operator.GreaterThanEqual r =
    raised_by (trimmed r) None (minor_raised (trimmed r))
python_raised_number o r = raised_by r (raised_number o r) None

-- a bound of a comparison would be above the largest number
abbrev pub PythonOverflows : Operator → List ℕ → Type 0
PythonOverflows o r = IsGreatest (python_raised_number o r)
