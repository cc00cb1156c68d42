use Rattle.requirement_lines.proofs.ReportLaws.{mark_characters}
use Rattle.requirement_lines.proofs.logical.without_mark.Goals as goal

pub returns-in-Some-eq65279-default-clause-characters : goal.returns-in-Some-eq65279-default-clause-characters
returns-in-Some-eq65279-default-clause-characters c = let s = c.in-Some-eq65279-default in mark_characters _ _ _ s.ensures.bytes s.ensures.characters s.field-0-0-test
