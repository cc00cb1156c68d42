use Rattle.std.proofs.Common.{length}
use Rattle.requirement_lines.proofs.PositionLaws.{Advancing}
use Rattle.requirement_lines.proofs.positions.advance.Given as goal

abbrev pub invariant-loop-c : goal.invariant-loop-c
invariant-loop-c l = Advancing l.fn.here l.rest l.to_end l.position l.left

abbrev pub decreases-loop-c : goal.decreases-loop-c
decreases-loop-c l = length l.left.text.now
