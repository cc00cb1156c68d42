-- Sets of versions that are one interval.
use Rattle.std.proofs.Common.{◌≡◌, ◌∙◌, Bool, true, false, ◌||◌, List, [], ◌∷◌, Option, Some, None, refl, sym, ap}
use Rattle.std.specs.Prelude.{is_some, MatchOption}
use Rattle.std.specs.List.{list_any}
use Rattle.version_ranges.specs.declared.ranges.Ranges.{Ranges}
use Rattle.version_ranges.specs.Intervals.{Interval, AreIntervals, is_within}
use Rattle.version_ranges.specs.Point.{Point}
use Rattle.version_ranges.specs.Ranges.{contains_point}
use Rattle.pep440_version.specs.Order.{version_cmp}
use Rattle.pep440_version.specs.Parts.{Parts}

or-false : (b : Bool) → (b || false) ≡ b
or-false true = refl
or-false false = refl

-- a set with one interval
pub only_one : {a : _} {b : _} {c : _} (set : Ranges Parts a b c) (is : List (Interval Parts)) (i : Interval Parts) → AreIntervals version_cmp set is → is ≡ i ∷ [] → (p : Point Parts) → contains_point version_cmp set p ≡ is_within version_cmp i p
only_one set is i h e p = h.covers p ∙ ap (list_any (λ j. is_within version_cmp j p)) e ∙ or-false (is_within version_cmp i p)

-- what is said of no value
pub none_left : {A P : Type 0} (Q : A → Type 0) (r : Option A) → is_some r ≡ false → MatchOption r P Q → P
none_left Q None e m = m
none_left Q (Some x) e m = absurd (let f : true ≡ false = e in cc)
