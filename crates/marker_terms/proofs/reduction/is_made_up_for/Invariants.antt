use Rattle.std.proofs.Common.{◌≡◌, ◌<◌, ◌++◌, ℕ, List, Some, false, get_or}
use Rattle.marker_terms.specs.declared.numbered.NumberedTerm.{NumberedTerm}
use Rattle.marker_terms.specs.Numbered.{clause_at, number_of}
use Rattle.marker_terms.specs.Reduction.{stands_for}
use Rattle.marker_terms.proofs.reduction.is_made_up_for.Given as goal

abbrev pub invariant-loop-place : goal.invariant-loop-place
invariant-loop-place l = (k : ℕ) (c : List NumberedTerm) → k < l.place-index
    → clause_at l.clauses (get_or l.places k 0) ≡ Some c
    → stands_for number_of l.term (l.kept ++ l.rest) c ≡ false
