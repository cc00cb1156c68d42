use Rattle.std.proofs.Common.{arith}
use Rattle.requirement_lines.proofs.PositionLaws.{advancing_none, advancing_more}
use Rattle.requirement_lines.proofs.positions.advance.Goals as goal

pub loop-c-init : goal.loop-c-init
loop-c-init c = advancing_none _ _ _ _ c.utf8.rest c.whole-left.ensures.characters c.whole-left.ensures.text c.whole-left.ensures.place

pub loop-c-preserved : goal.loop-c-preserved
loop-c-preserved c = advancing_more _ c.loop-c.invariant c.in-Some.ensures.characters c.in-Some.ensures.end c.in-Some.ensures.shorter (omega arith) c.next_position-position.ensures
