use Rattle.std.proofs.Common.{◌≡◌, ◌&&◌}
use Rattle.std.specs.List.{AllByRecursion}
use Rattle.marker_environment.specs.Valuation.{Valuation}
use Rattle.pep440_specifier.specs.Bounds.{bound_specifiers, specifiers_left}
use Rattle.pep440_rs.specs.Bounds.{is_in_all}
use Rattle.marker_terms.specs.Clauses.{clause_holds}
use Rattle.marker_terms.specs.Plain.{AllPrintable, IsPrintableSpecifier}
use Rattle.marker_terms.proofs.version_set.version_range_terms.Given as goal

abbrev pub invariant-loop-specifier : goal.invariant-loop-specifier
invariant-loop-specifier l = record {
  means : (v : Valuation) → (clause_holds l.terms.items v && is_in_all (specifiers_left l.specifier-iterator) (v.version l.variable))
      ≡ is_in_all (bound_specifiers l.bounds.0 l.bounds.1) (v.version l.variable);
  left : AllByRecursion IsPrintableSpecifier (specifiers_left l.specifier-iterator);
  printable : AllPrintable l.terms.items;
}
