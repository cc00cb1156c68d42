use Rattle.std.proofs.Common.{ℕ}
use Rattle.std.specs.Prelude.{All}
use Rattle.marker_simplifications.specs.Granting.{IsPlain}
use Rattle.marker_simplifications.proofs.extras.next_unknown.Given as goal

abbrev pub invariant-loop-id : goal.invariant-loop-id
invariant-loop-id l = (n : ℕ) → All (IsPlain n) l.initial.pending.items → All (IsPlain n) l.pending.items

abbrev pub decreases-loop-id : goal.decreases-loop-id
decreases-loop-id l = goal.left-loop-id l
