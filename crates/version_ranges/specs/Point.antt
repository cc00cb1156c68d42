-- Points of an ordered set, and the ranges of points between two bounds.
use Rattle.std.specs.Prelude.{Bool, true, not, ◌&&◌, List}
use Rattle.std.specs.List.{list_any}
use Rattle.std.specs.Ordering.{is_lt, ordering_then}
use Rattle.std.specs.declared.cmp.Ordering.{Ordering}
use Rattle.std.specs.declared.cmp.Ordering.TheVariants.{Less, Equal, Greater}
use Rattle.std.specs.declared.ops.Bound.{Bound}
use Rattle.std.specs.declared.ops.Bound.TheVariants.{Included, Excluded, Unbounded}

-- a place in an ordered set: below all values, at a value, or right above a value
pub data Point (T : Type 0) : Type 0 where
  bottom : Point T
  at : T → Point T
  above : T → Point T

-- the same point, if the values have other names
abbrev pub point_map : {T K : Type 0} → (T → K) → Point T → Point K
point_map f bottom = bottom
point_map f (at v) = at (f v)
point_map f (above v) = above (f v)

-- where a range with this lower bound begins
abbrev pub begin_point : {T : Type 0} → Bound T → Point T
begin_point (Included v) = at v
begin_point (Excluded v) = above v
begin_point Unbounded = bottom

module _ {T : Type 0} (cmp : T → T → Ordering) where
  -- the order of points: `bottom` first, `at v` before `above v`, and else as the values; values
  -- that tie are at one point
  abbrev pub point_cmp : Point T → Point T → Ordering
  point_cmp bottom bottom = Equal
  point_cmp bottom (at w) = Less
  point_cmp bottom (above w) = Less
  point_cmp (at v) bottom = Greater
  point_cmp (at v) (at w) = cmp v w
  point_cmp (at v) (above w) = ordering_then (cmp v w) Less
  point_cmp (above v) bottom = Greater
  point_cmp (above v) (at w) = ordering_then (cmp v w) Greater
  point_cmp (above v) (above w) = cmp v w

  -- whether a point is before another
  abbrev pub point_lt : Point T → Point T → Bool
  point_lt p q = is_lt (point_cmp p q)

  -- not before a lower bound: `Included v` begins at `at v`, `Excluded v` at `above v`, `Unbounded`
  -- at `bottom`
  abbrev pub is_from : Bound T → Point T → Bool
  is_from lower p = not (point_lt p (begin_point lower))

  -- not past an upper bound: `Included v` ends after `at v`, `Excluded v` before it, `Unbounded`
  -- never
  abbrev pub is_until : Bound T → Point T → Bool
  is_until (Included v) p = point_lt p (above v)
  is_until (Excluded v) p = point_lt p (at v)
  is_until Unbounded p = true

  -- between two bounds
  abbrev pub is_in_bounds : Bound T → Bound T → Point T → Bool
  is_in_bounds lower upper p = is_from lower p && is_until upper p

  -- at a value
  abbrev pub is_value : T → Point T → Bool
  is_value v p = is_in_bounds (Included v) (Included v) p

  -- at one of these values
  abbrev pub is_one_of : List T → Point T → Bool
  is_one_of vs p = list_any (λ v. is_value v p) vs
