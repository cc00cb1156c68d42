-- The intervals of a set of points, in order.
use Rattle.std.specs.Prelude.{◌≡◌, Bool, true, false, ◌&&◌, Option, Some, None, List, [], ◌∷◌, if◌then◌else◌}
use Rattle.std.specs.List.{list_any}
use Rattle.std.specs.Borrow.{Bor}
use Rattle.std.specs.Range.Bound.{bound_map}
use Rattle.std.specs.declared.cmp.Ordering.{Ordering}
use Rattle.std.specs.declared.cmp.Ordering.TheVariants.{Less}
use Rattle.std.specs.declared.ops.Bound.{Bound}
use Rattle.std.specs.declared.ops.Bound.TheVariants.{Unbounded}
use Rattle.version_ranges.specs.declared.cut.Cut.{Cut}
use Rattle.version_ranges.specs.declared.ranges.Ranges.{Ranges}
use Rattle.version_ranges.specs.declared.intervals.Intervals.{Intervals}
use Rattle.version_ranges.specs.Cut.{lower_of, upper_of}
use Rattle.version_ranges.specs.Point.{Point, point_cmp, is_in_bounds}
use Rattle.version_ranges.specs.Parts.{Part, parts_of, parts_left, same_bound}
use Rattle.version_ranges.specs.Ranges.{contains_point}

-- the bounds of an interval
abbrev pub Interval : Type 0 → Type 0
Interval T = Bound T × Bound T

module _ {T : Type 0} where
  -- the bounds of the pieces whose points are in the set
  abbrev pub intervals_among : List (Part T Bool) → List (Interval T)
  intervals_among [] = []
  intervals_among (p ∷ ps) =
      if p.value then (p.lower, p.upper) ∷ intervals_among ps else intervals_among ps

  -- whether two intervals have equal bounds
  abbrev pub same_interval : (T → T → Bool) → Interval T → Interval T → Bool
  same_interval eq i j = same_bound eq i.0 j.0 && same_bound eq i.1 j.1

  -- whether two lists have equal intervals, one after another
  abbrev pub same_intervals : (T → T → Bool) → List (Interval T) → List (Interval T) → Bool
  same_intervals eq [] [] = true
  same_intervals eq [] (j ∷ js) = false
  same_intervals eq (i ∷ is) [] = false
  same_intervals eq (i ∷ is) (j ∷ js) = same_interval eq i j && same_intervals eq is js

  -- an item without its references
  abbrev pub interval_of : Bound (Bor T) × Bound (Bor T) → Interval T
  interval_of i = (bound_map (λ v. v.now) i.0, bound_map (λ v. v.now) i.1)

  -- what an iterator has left
  abbrev pub intervals_left : Intervals T → List (Interval T)
  intervals_left it = intervals_among (parts_left it.pieces)

  -- the upper bound of the last of these, or the one before them
  abbrev pub last_upper : Bound T → List (Interval T) → Bound T
  last_upper upper [] = upper
  last_upper upper (i ∷ is) = last_upper i.1 is

  -- from the lower bound of the first interval to the upper bound of the last
  abbrev pub span_of : List (Interval T) → Option (Interval T)
  span_of [] = None
  span_of (i ∷ is) = Some (i.0, last_upper i.1 is)

  -- the lower bound of the first interval, by the value before all cuts, and the cuts
  abbrev pub lower_from : Bool → List (Cut T × Bool) → Option (Bound T)
  lower_from true steps = Some Unbounded
  lower_from false [] = None
  lower_from false (s ∷ steps) = Some (lower_of s.0)

  -- the upper bound of the last interval, by the cuts
  abbrev pub upper_after : List (Cut T × Bool) → Bound T
  upper_after [] = Unbounded
  upper_after (s ∷ []) = if s.1 then Unbounded else upper_of s.0
  upper_after (s ∷ t ∷ steps) = upper_after (t ∷ steps)

  module _ (cmp : T → T → Ordering) where
    -- whether a point lies in an interval
    abbrev pub is_within : Interval T → Point T → Bool
    is_within i p = is_in_bounds cmp i.0 i.1 p

    -- each point of an interval is before each point of another
    abbrev pub IsBefore : Interval T → Interval T → Type 0
    IsBefore i j = (p q : Point T) →
        is_within i p ≡ true → is_within j q ≡ true → point_cmp cmp p q ≡ Less

    -- each point of an interval is before each point of these
    abbrev pub StandsBefore : Interval T → List (Interval T) → Type 0
    StandsBefore i [] = Unit {0}
    StandsBefore i (j ∷ js) = IsBefore i j × StandsBefore i js

    -- no interval is empty, and each is before the later ones
    abbrev pub AreAscending : List (Interval T) → Type 0
    AreAscending [] = Unit {0}
    AreAscending (i ∷ is) =
        (p : Point T) × (is_within i p ≡ true) × StandsBefore i is × AreAscending is

    -- between an interval and the first of these there is a point, after the one and before the
    -- other
    abbrev pub HasGap : Interval T → List (Interval T) → Type 0
    HasGap i [] = Unit {0}
    HasGap i (j ∷ js) = (p : Point T) ×
        ((q : Point T) → is_within i q ≡ true → point_cmp cmp q p ≡ Less) ×
        ((q : Point T) → is_within j q ≡ true → point_cmp cmp p q ≡ Less)

    -- no two intervals touch
    abbrev pub AreApart : List (Interval T) → Type 0
    AreApart [] = Unit {0}
    AreApart (i ∷ is) = HasGap i is × AreApart is

  module _ {a : _} {b : _} {c : _} where
    -- all intervals
    abbrev pub intervals_of : Ranges T a b c → List (Interval T)
    intervals_of ranges = intervals_among (parts_of ranges.cuts)

    -- these are the intervals of a set, in order: they have its points and no other
    pub record AreIntervals (cmp : T → T → Ordering) (ranges : Ranges T a b c)
        (intervals : List (Interval T)) : Type 0 where
      pub covers : (p : Point T) →
          contains_point cmp ranges p ≡ list_any (λ i. is_within cmp i p) intervals
      pub ascending : AreAscending cmp intervals
