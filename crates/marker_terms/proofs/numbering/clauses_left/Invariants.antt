use Rattle.std.proofs.Common.{◌≡◌, ◌++◌, map}
use Rattle.std.specs.Vec.Iter.{into_iter_items}
use Rattle.marker_terms.specs.Clauses.{clauses_of}
use Rattle.marker_terms.specs.Numbered.{left_of}
use Rattle.marker_terms.specs.Numbering.{expression_of}
use Rattle.marker_terms.proofs.numbering.clauses_left.Given as goal

abbrev pub invariant-loop-place : goal.invariant-loop-place
invariant-loop-place l = clauses_of l.left.items ++ map (map expression_of) (left_of (into_iter_items l.place-iterator)) ≡ map (map expression_of) (left_of l.fn.clauses.items)
