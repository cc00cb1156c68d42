-- Cuts of an ordered set, at which pieces begin.
use Rattle.std.specs.Prelude.{Bool, ◌&&◌, not, if◌then◌else◌}
use Rattle.std.specs.Ordering.{then_cmp, on, bool_cmp}
use Rattle.std.specs.declared.cmp.Ordering.{Ordering}
use Rattle.std.specs.declared.ops.Bound.{Bound}
use Rattle.std.specs.declared.ops.Bound.TheVariants.{Included, Excluded}
use Rattle.version_ranges.specs.declared.cut.Cut.{Cut}
use Rattle.version_ranges.specs.Point.{Point, at, above, point_lt}

-- the order of cuts: by value, and at one value the place at it before the place above it
abbrev pub cut_cmp : {T : Type 0} → (T → T → Ordering) → Cut T → Cut T → Ordering
cut_cmp cmp = then_cmp (on (λ c. c.value) cmp) (on (λ c. c.above) bool_cmp)

-- the first point of the piece that begins at a cut, if the values have the names that f gives them
abbrev pub cut_point : {T K : Type 0} → (T → K) → Cut T → Point K
cut_point f c = if c.above then above (f c.value) else at (f c.value)

-- whether a point is before a cut
abbrev pub stands_before : {T K : Type 0} → (T → K) → (K → K → Ordering) → Point K → Cut T → Bool
stands_before f cmp p c = point_lt cmp p (cut_point f c)

module _ {T : Type 0} (cmp : T → T → Ordering) where
  -- whether a point is one of those before a cut, or if `first` is false one of the others
  abbrev pub is_in_half : Bool → Cut T → Point T → Bool
  is_in_half first c p = if stands_before (λ v. v) cmp p c then first else not first

  -- whether a point is at or after a cut, and before another
  abbrev pub is_in_span : Cut T → Cut T → Point T → Bool
  is_in_span begin end p =
      not (stands_before (λ v. v) cmp p begin) && stands_before (λ v. v) cmp p end

-- the lower bound of what begins at a cut
abbrev pub lower_of : {T : Type 0} → Cut T → Bound T
lower_of c = if c.above then Excluded c.value else Included c.value

-- the upper bound of what ends at a cut
abbrev pub upper_of : {T : Type 0} → Cut T → Bound T
upper_of c = if c.above then Included c.value else Excluded c.value
