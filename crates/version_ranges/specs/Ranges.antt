-- What a `Ranges` is as a set of points.
use Rattle.std.specs.Prelude.{◌≡◌, ◌≢◌, Bool, ◌&&◌, ◌||◌, not}
use Rattle.std.specs.declared.cmp.Ordering.{Ordering}
use Rattle.std.specs.declared.ops.Bound.{Bound}
use Rattle.version_ranges.specs.declared.ranges.Ranges.{Ranges}
use Rattle.version_ranges.specs.Point.{Point, is_in_bounds}
use Rattle.version_ranges.specs.Cuts.{value_by}

module _ {T : Type 0} {a : _} {b : _} {c : _} where
  -- whether a point is in the set, if the values of the order have the names that f gives them,
  -- which cmp orders
  abbrev pub contains_by :
      {K : Type 0} → (T → K) → (K → K → Ordering) → Ranges T a b c → Point K → Bool
  contains_by f cmp ranges p = value_by f cmp ranges.cuts p

  -- whether a point is in the set
  abbrev pub contains_point : (T → T → Ordering) → Ranges T a b c → Point T → Bool
  contains_point cmp ranges p = contains_by (λ v. v) cmp ranges p

  -- a set is that of the points which pass a test
  abbrev pub IsSet : (T → T → Ordering) → Ranges T a b c → (Point T → Bool) → Type 0
  IsSet cmp ranges test = (p : Point T) → contains_point cmp ranges p ≡ test p

  -- a set is that between two bounds
  abbrev pub IsInterval : (T → T → Ordering) → Bound T → Bound T → Ranges T a b c → Type 0
  IsInterval cmp lower upper ranges = IsSet cmp ranges (is_in_bounds cmp lower upper)

  -- a set has the points that another one has not
  abbrev pub IsComplement : (T → T → Ordering) → Ranges T a b c → Ranges T a b c → Type 0
  IsComplement cmp old new = IsSet cmp new (λ p. not (contains_point cmp old p))

  -- a set has the points that are in one of two others at least
  abbrev pub IsUnion :
      (T → T → Ordering) → Ranges T a b c → Ranges T a b c → Ranges T a b c → Type 0
  IsUnion cmp r s new = IsSet cmp new (λ p. contains_point cmp r p || contains_point cmp s p)

  -- a set has the points that are in both of two others
  abbrev pub IsIntersection :
      (T → T → Ordering) → Ranges T a b c → Ranges T a b c → Ranges T a b c → Type 0
  IsIntersection cmp r s new = IsSet cmp new (λ p. contains_point cmp r p && contains_point cmp s p)

  -- two sets have the same points
  abbrev pub HaveSamePoints : (T → T → Ordering) → Ranges T a b c → Ranges T a b c → Type 0
  HaveSamePoints cmp r s = (p : Point T) → contains_point cmp r p ≡ contains_point cmp s p

  -- a point is in only one of two sets
  abbrev pub DifferInPoint : (T → T → Ordering) → Ranges T a b c → Ranges T a b c → Type 0
  DifferInPoint cmp r s = (p : Point T) × (contains_point cmp r p ≢ contains_point cmp s p)
