use Rattle.std.proofs.Common.{◌≡◌, ◌++◌, map}
use Rattle.std.specs.List.{AllByRecursion}
use Rattle.std.specs.Vec.Iter.{into_iter_items}
use Rattle.marker_terms.specs.Clauses.{clauses_of}
use Rattle.marker_terms.specs.Numbered.{left_of}
use Rattle.marker_terms.specs.Numbering.{AreNumbered, expression_of}
use Rattle.marker_terms.proofs.numbering.numbered_clauses.Given as goal

abbrev pub invariant-loop-clause : goal.invariant-loop-clause
invariant-loop-clause l = record {
  terms : map (map expression_of) (left_of l.numbered.items) ++ clauses_of (into_iter_items l.clause-iterator) ≡ clauses_of l.fn.clauses.items;
  numbers : AllByRecursion (AreNumbered l.numbering.names.items) (left_of l.numbered.items);
}
