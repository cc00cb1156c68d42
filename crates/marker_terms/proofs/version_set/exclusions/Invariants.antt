use Rattle.std.proofs.Common.{◌≡◌, ◌||◌, true, not}
use Rattle.std.specs.List.{list_all, list_any}
use Rattle.version_ranges.specs.Bounds.{all_bounds, passes_at_both}
use Rattle.version_ranges.specs.Intervals.{intervals_left, is_within}
use Rattle.version_ranges.specs.Ranges.{contains_point}
use Rattle.pep440_version.specs.Order.{version_cmp}
use Rattle.pep440_rs.specs.Bounds.{is_release}
use Rattle.marker_environment.specs.Valuation.{Valuation}
use Rattle.marker_terms.specs.Clauses.{clause_holds}
use Rattle.marker_terms.specs.Plain.{AllPrintable}
use Rattle.marker_terms.proofs.version_set.exclusions.Given as goal

abbrev pub invariant-loop-bounds : goal.invariant-loop-bounds
invariant-loop-bounds l = record {
  means : all_bounds is_release l.outside ≡ true → (list_all (passes_at_both is_release) (intervals_left l.bounds-iterator) ≡ true)
      × ((v : Valuation) → (not (clause_holds l.terms.items v) || list_any (λ i. is_within version_cmp i (v.version l.variable)) (intervals_left l.bounds-iterator))
      ≡ contains_point version_cmp l.outside (v.version l.variable));
  printable : AllPrintable l.terms.items;
}
