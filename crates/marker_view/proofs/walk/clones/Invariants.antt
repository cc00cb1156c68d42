use Rattle.std.proofs.Common.{◌≡◌, take}
use Rattle.marker_environment.specs.Valuation.{Valuation}
use Rattle.marker_terms.specs.Clauses.{clause_holds}
use Rattle.marker_terms.specs.Plain.{AllPrintable}
use Rattle.marker_view.proofs.walk.clones.Given as goal

abbrev pub invariant-loop-term : goal.invariant-loop-term
invariant-loop-term l = record {
  means : (v : Valuation) → clause_holds l.all.items v ≡ clause_holds (take l.term-index l.path) v;
  printable : AllPrintable l.path → AllPrintable l.all.items;
}
