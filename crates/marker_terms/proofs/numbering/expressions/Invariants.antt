use Rattle.std.proofs.Common.{◌≡◌, ◌++◌, map}
use Rattle.std.specs.Vec.Iter.{into_iter_items}
use Rattle.marker_terms.specs.Numbering.{expression_of}
use Rattle.marker_terms.proofs.numbering.expressions.Given as goal

abbrev pub invariant-loop-term : goal.invariant-loop-term
invariant-loop-term l = l.terms.items ++ map expression_of (into_iter_items l.term-iterator) ≡ map expression_of l.fn.clause.items
