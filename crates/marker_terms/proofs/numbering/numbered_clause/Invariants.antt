use Rattle.std.proofs.Common.{◌≡◌, ◌++◌, map}
use Rattle.std.specs.Vec.Iter.{into_iter_items}
use Rattle.marker_terms.specs.Numbering.{AreNumbered, Extends, expression_of}
use Rattle.marker_terms.proofs.numbering.numbered_clause.Given as goal

abbrev pub invariant-loop-expression : goal.invariant-loop-expression
invariant-loop-expression l = record {
  terms : map expression_of l.terms.items ++ into_iter_items l.expression-iterator ≡ l.fn.clause.items;
  numbered : AreNumbered l.numbering.names.items l.terms.items;
  kept : Extends l.initial.numbering.names.items l.numbering.names.items;
}
