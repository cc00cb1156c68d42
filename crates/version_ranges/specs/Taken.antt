-- Which points of two sets are taken.
use Rattle.std.specs.Prelude.{Bool, not, ◌&&◌, ◌||◌}
use mathlib.Core.Bool.{beq}
use Rattle.std.specs.declared.cmp.Ordering.{Ordering}
use Rattle.version_ranges.specs.declared.combine.Taken.{Taken}
use Rattle.version_ranges.specs.declared.combine.Taken.TheVariants.{InEither, InBoth, InOne}
use Rattle.version_ranges.specs.declared.ranges.Ranges.{Ranges}
use Rattle.version_ranges.specs.Point.{Point}
use Rattle.version_ranges.specs.Ranges.{contains_point}

-- whether a point is taken, by whether it is in the first and in the second set
abbrev pub takes : Taken → Bool × Bool → Bool
takes InEither in_sets = in_sets.0 || in_sets.1
takes InBoth in_sets = in_sets.0 && in_sets.1
takes InOne in_sets = not (beq in_sets.0 in_sets.1)

-- whether a point of two sets is taken
abbrev pub is_taken : {T : Type 0} {a : _} {b : _} {c : _}
    → (T → T → Ordering) → Taken → Ranges T a b c → Ranges T a b c → Point T → Bool
is_taken cmp taken r s p = takes taken (contains_point cmp r p, contains_point cmp s p)
