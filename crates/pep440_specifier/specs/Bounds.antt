-- The specifiers whose conjunction means a range of releases.
use Rattle.std.specs.Prelude.{◌==◌, ◌&&◌, ◌+◌, ℕ, List, [], ◌∷◌, ◌++◌, Option, None, Some, if◌then◌else◌}
use Rattle.std.specs.Borrow.{Bor}
use Rattle.std.specs.Ordering.{eq_by_cmp}
use Rattle.std.specs.declared.ops.Bound.{Bound}
use Rattle.std.specs.declared.ops.Bound.TheVariants.{Included, Excluded, Unbounded}
use Rattle.pep440_version.specs.Order.{version_cmp}
use Rattle.pep440_version.specs.Parts.{Parts, release_only}
use Rattle.pep440_specifier.specs.declared.operator.Operator.{Operator}
use Rattle.pep440_specifier.specs.declared.operator.Operator.TheVariants.{Equal, EqualStar, LessThan, LessThanEqual, GreaterThan, GreaterThanEqual}
use Rattle.pep440_specifier.specs.declared.bounds.BoundSpecifiers.{BoundSpecifiers}
use Rattle.pep440_specifier.specs.Alone.{is_alone, is_empty}
use Rattle.pep440_specifier.specs.Specifier.{Specifier}

-- the specifiers that are there
abbrev pub terms : Option Specifier → List Specifier
terms None = []
terms (Some s) = s ∷ []

-- what an iterator has left
abbrev pub specifiers_left : BoundSpecifiers → List Specifier
specifiers_left it = terms it.first ++ terms it.second

-- the first two release numbers of at most two, `3` counting as `3.0`
abbrev pub two_numbers : List ℕ → Option (ℕ × ℕ)
two_numbers [] = None
two_numbers (major ∷ []) = Some (major, 0)
two_numbers (major ∷ minor ∷ []) = Some (major, minor)
two_numbers (major ∷ minor ∷ micro ∷ others) = None

-- those of a version with only release numbers
abbrev pub minor_of : Parts → Option (ℕ × ℕ)
minor_of v = if v.epoch == 0 && is_alone v then two_numbers v.release else None

-- the second comes right after the first
abbrev pub next_minor : Option (ℕ × ℕ) → Option (ℕ × ℕ) → Option (ℕ × ℕ)
next_minor (Some a) (Some b) = if (a.0 == b.0) && (a.1 + 1 == b.1) then Some a else None
next_minor (Some a) None = None
next_minor None b = None

-- M.m, if the versions are M.m and M.(m+1)
abbrev pub star_between : Parts → Parts → Option (ℕ × ℕ)
star_between v w = next_minor (minor_of v) (minor_of w)

abbrev pub specifier_of_parts : Operator → Parts → Specifier
specifier_of_parts operator v = record { operator = operator; version = v }

-- the version in the specifier of one bound: without its local part, which such a specifier does
-- not accept, only the release is left
abbrev pub bounding : Parts → Parts
bounding v = if is_empty v.locals then v else release_only v.release

abbrev pub lower_terms : Bound (Bor Parts) → List Specifier
lower_terms (Included v) = specifier_of_parts GreaterThanEqual (bounding v.now) ∷ []
lower_terms (Excluded v) = specifier_of_parts GreaterThan (bounding v.now) ∷ []
lower_terms Unbounded = []

abbrev pub upper_terms : Bound (Bor Parts) → List Specifier
upper_terms (Included v) = specifier_of_parts LessThanEqual (bounding v.now) ∷ []
upper_terms (Excluded v) = specifier_of_parts LessThan (bounding v.now) ∷ []
upper_terms Unbounded = []

-- the one specifier of the range: `==` if both bounds are included and equal, and a star for M.m up
-- to M.(m+1)
abbrev pub star_term : Option (ℕ × ℕ) → Option Specifier
star_term None = None
star_term (Some m) = Some (specifier_of_parts EqualStar (release_only (m.0 ∷ m.1 ∷ [])))

abbrev pub single_term : Bound (Bor Parts) → Bound (Bor Parts) → Option Specifier
single_term (Included v) (Included w) =
    if eq_by_cmp version_cmp v.now w.now then Some (specifier_of_parts Equal v.now) else None
single_term (Included v) (Excluded w) = star_term (star_between v.now w.now)
single_term (Included v) Unbounded = None
single_term (Excluded v) upper = None
single_term Unbounded upper = None

-- that specifier, or else one for each bound
abbrev pub terms_of : Option Specifier → Bound (Bor Parts) → Bound (Bor Parts) → List Specifier
terms_of (Some single) lower upper = single ∷ []
terms_of None lower upper = lower_terms lower ++ upper_terms upper

abbrev pub bound_specifiers : Bound (Bor Parts) → Bound (Bor Parts) → List Specifier
bound_specifiers lower upper = terms_of (single_term lower upper) lower upper
