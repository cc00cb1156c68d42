use Rattle.std.proofs.Common.{◌≡◌, ◌<◌, ℕ, List, Some}
use Rattle.marker_terms.specs.declared.numbered.NumberedTerm.{NumberedTerm}
use Rattle.marker_terms.specs.Endings.{Lists}
use Rattle.marker_terms.specs.Numbered.{clause_at}
use Rattle.marker_terms.proofs.endings.endings_of.Given as goal

abbrev pub invariant-loop-place : goal.invariant-loop-place
invariant-loop-place l = (j : ℕ) (c : List NumberedTerm) → j < l.place → clause_at l.clauses j ≡ Some c → Lists l.endings c j
