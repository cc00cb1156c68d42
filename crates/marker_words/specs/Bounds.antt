-- What an iterator over the comparisons of a range has left, and the texts that a bound has.
use Rattle.std.specs.Prelude.{◌≡◌, ℕ, List, ◌++◌, Option}
use Rattle.std.specs.Option.{option_map, option_to_list}
use Rattle.std.specs.declared.ops.Bound.{Bound}
use Rattle.version_ranges.specs.Point.{Point, is_from, is_in_bounds, is_until}
use Rattle.marker_words.specs.declared.operator.MarkerOperator.{MarkerOperator}
use Rattle.marker_words.specs.declared.bounds.MarkerOperatorBounds.{MarkerOperatorBounds}
use Rattle.marker_words.specs.Compare.{pair_of, satisfies_all, text_cmp}

abbrev pub pairs_left : MarkerOperatorBounds → List (MarkerOperator × List ℕ)
pairs_left it =
    option_to_list (option_map pair_of it.lower) ++ option_to_list (option_map pair_of it.upper)

-- the comparisons hold at exactly the points between these bounds
abbrev pub HoldBetween : List (MarkerOperator × List ℕ) → Bound (List ℕ) → Bound (List ℕ) → Type 0
HoldBetween pairs lower upper = (p : Point (List ℕ)) → satisfies_all text_cmp pairs p
    ≡ is_in_bounds text_cmp lower upper p

-- the comparison, if any, holds at exactly the points from the bound on
abbrev pub HoldsFrom : Option (MarkerOperator × List ℕ) → Bound (List ℕ) → Type 0
HoldsFrom pair bound = (p : Point (List ℕ)) → satisfies_all text_cmp (option_to_list pair) p
    ≡ is_from text_cmp bound p

-- at exactly those up to it
abbrev pub HoldsUntil : Option (MarkerOperator × List ℕ) → Bound (List ℕ) → Type 0
HoldsUntil pair bound = (p : Point (List ℕ)) → satisfies_all text_cmp (option_to_list pair) p
    ≡ is_until text_cmp bound p
