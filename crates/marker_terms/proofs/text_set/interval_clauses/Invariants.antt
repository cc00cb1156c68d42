use Rattle.std.proofs.Common.{◌≡◌, ◌||◌, true, string_bytes}
use Rattle.std.specs.List.{list_all, list_any}
use Rattle.version_ranges.specs.Bounds.{all_bounds, passes_at_both}
use Rattle.version_ranges.specs.Intervals.{intervals_left, is_within}
use Rattle.version_ranges.specs.Ranges.{contains_by}
use Rattle.marker_words.specs.Compare.{text_cmp}
use Rattle.marker_words.specs.Key.{variable_of}
use Rattle.marker_environment.specs.Valuation.{Valuation}
use Rattle.marker_terms.specs.Clauses.{clauses_hold, clauses_of}
use Rattle.marker_terms.specs.Plain.{is_plain, HavePrintableTerms}
use Rattle.marker_terms.proofs.TextLaws.{interval_bytes}
use Rattle.marker_terms.proofs.text_set.interval_clauses.Given as goal

abbrev pub invariant-loop-bounds : goal.invariant-loop-bounds
invariant-loop-bounds l = record {
  means : (v : Valuation) → (clauses_hold (clauses_of l.clauses.items) v || list_any (λ i. is_within text_cmp (interval_bytes i) (v.text (variable_of l.key))) (intervals_left l.bounds-iterator))
      ≡ contains_by string_bytes text_cmp l.set (v.text (variable_of l.key));
  printable : all_bounds (λ t. is_plain (string_bytes t)) l.set ≡ true
      → (list_all (passes_at_both (λ t. is_plain (string_bytes t))) (intervals_left l.bounds-iterator) ≡ true) × HavePrintableTerms (clauses_of l.clauses.items);
}
