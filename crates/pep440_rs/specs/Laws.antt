-- What the laws of the sets say.
use Rattle.std.specs.Prelude.{◌≡◌, ℕ, List, Some, not, Bool, ◌<◌, length}
use Rattle.std.specs.Borrow.{Bor}
use Rattle.std.specs.declared.ops.Bound.{Bound}
use Rattle.version_ranges.specs.Alike.{AreAlike}
use Rattle.version_ranges.specs.Point.{Point}
use Rattle.pep440_version.specs.Order.{version_cmp, trimmed_parts}
use Rattle.pep440_version.specs.Parts.{Parts}
use Rattle.pep440_specifier.specs.Bounds.{bound_specifiers}
use Rattle.pep440_specifier.specs.Operator.{negated}
use Rattle.pep440_specifier.specs.Specifier.{Specifier}
use Rattle.pep440_specifier.specs.declared.operator.Operator.{Operator}
use Rattle.pep440_rs.specs.Bounds.{is_in_all, is_within, IsAtRelease}
use Rattle.std.specs.declared.cmp.Ordering.TheVariants.{Equal}
use Rattle.pep440_specifier.specs.Order.{specifier_cmp}
use Rattle.pep440_rs.specs.PythonVersion.{python_is_in}
use Rattle.pep440_rs.specs.Intervals.{Overflows}
use Rattle.std.specs.List.{AllByRecursion}
use Rattle.pep440_rs.specs.Ends.{IsReleasePoint, ends_of, python_ends_of}

-- whether a point is in the set of an operator and a release
abbrev pub SetOf : Type 0
SetOf = Operator → List ℕ → Point Parts → Bool

-- a negated operator takes the points that the operator does not
abbrev pub NegationIsComplement : SetOf → Type 0
NegationIsComplement set =
    (o n : Operator) (r : List ℕ) (p : Point Parts) → negated o ≡ Some n
    → set n r p ≡ not (set o r p)

-- a point is between two bounds exactly if it is in the set of each specifier of the range
abbrev pub IsRangeAt : Bound (Bor Parts) → Bound (Bor Parts) → Point Parts → Type 0
IsRangeAt lower upper p = is_in_all (bound_specifiers lower upper) p ≡ is_within lower upper p

-- two specifiers have the same set
abbrev pub StandAlike : SetOf → Specifier → Specifier → Type 0
StandAlike set s t =
    (p : Point Parts) → set s.operator s.version.release p ≡ set t.operator t.version.release p

-- two points before the same of the ends of a set are both in it, or neither is
abbrev pub ChangesAtEnds : SetOf → (Operator → List ℕ → List (Point Parts)) → Type 0
ChangesAtEnds set ends = (o : Operator) (r : List ℕ) (p q : Point Parts)
    → AreAlike version_cmp p q (ends o r) → set o r p ≡ set o r q

-- if two bounds are releases, the points between them are those of the range's specifiers
abbrev pub IsRange : Bound (Bor Parts) → Bound (Bor Parts) → Type 0
IsRange lower upper =
    (p : Point Parts) → IsAtRelease lower → IsAtRelease upper → IsRangeAt lower upper p

-- if two versions are equal, they are the same without the zeros at the end of their releases
abbrev pub AreTrimmedAlike : Parts → Parts → Type 0
AreTrimmedAlike v w = 0 < length v.release → 0 < length w.release
    → version_cmp v w ≡ Equal → trimmed_parts v ≡ trimmed_parts w

-- if two specifiers are equal, their comparisons of `python_version` have the same set
abbrev pub ComparePythonAlike : Specifier → Specifier → Type 0
ComparePythonAlike s t = specifier_cmp s t ≡ Equal
    → 0 < length s.version.release → 0 < length t.version.release → StandAlike python_is_in s t

-- no specifier of a range has a bound above the largest number
abbrev pub RaisesNothing : Bound (Bor Parts) → Bound (Bor Parts) → Type 0
RaisesNothing lower upper =
    AllByRecursion (λ s. ¬ Overflows s.operator s.version.release) (bound_specifiers lower upper)

-- the sets of an operator and a release begin and end at releases
abbrev pub EndsAtReleases : Operator → List ℕ → Type 0
EndsAtReleases o r = AllByRecursion IsReleasePoint (ends_of o r)
    × AllByRecursion IsReleasePoint (python_ends_of o r)
