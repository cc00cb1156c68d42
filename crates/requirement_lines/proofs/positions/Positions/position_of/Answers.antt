use Rattle.requirement_lines.proofs.PositionLaws.{stands_then}
use Rattle.requirement_lines.proofs.positions.Positions.position_of.Goals as goal

pub invariant_of-self : goal.invariant_of-self
invariant_of-self c = stands_then c.start.ensures.stands c.advance.ensures.goes_on
