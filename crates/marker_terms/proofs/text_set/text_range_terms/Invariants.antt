use Rattle.std.proofs.Common.{◌≡◌, ◌&&◌, true}
use Rattle.std.specs.List.{list_all}
use Rattle.version_ranges.specs.Bounds.{passes_at}
use Rattle.version_ranges.specs.Point.{is_in_bounds}
use Rattle.marker_words.specs.Bounds.{pairs_left}
use Rattle.marker_words.specs.Compare.{satisfies_all, text_bound, text_cmp}
use Rattle.marker_words.specs.Key.{variable_of}
use Rattle.marker_environment.specs.Valuation.{Valuation}
use Rattle.marker_terms.specs.Clauses.{clause_holds}
use Rattle.marker_terms.specs.Plain.{AllPrintable, is_plain}
use Rattle.marker_terms.proofs.PlainLaws.{is_plain_pair}
use Rattle.marker_terms.proofs.TextLaws.{orders}
use Rattle.marker_terms.proofs.text_set.text_range_terms.Given as goal

abbrev pub invariant-loop-operator : goal.invariant-loop-operator
invariant-loop-operator l = record {
  means : (list_all (λ pair. orders pair.0) (pairs_left l.operator-iterator) ≡ true)
      × ((v : Valuation) → (clause_holds l.terms.items v && satisfies_all text_cmp (pairs_left l.operator-iterator) (v.text (variable_of l.key)))
      ≡ is_in_bounds text_cmp (text_bound l.bounds.0) (text_bound l.bounds.1) (v.text (variable_of l.key)));
  printable : passes_at is_plain (text_bound l.bounds.0) ≡ true → passes_at is_plain (text_bound l.bounds.1) ≡ true
      → (list_all is_plain_pair (pairs_left l.operator-iterator) ≡ true) × AllPrintable l.terms.items;
}
