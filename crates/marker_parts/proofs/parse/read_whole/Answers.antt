use Rattle.marker_parts.proofs.WholeLaws.{none_at_front, read_to_the_end, unread_behind}
use Rattle.marker_parts.proofs.parse.read_whole.Goals as goal

pub returns-in-Err-clause-refused : goal.returns-in-Err-clause-refused
returns-in-Err-clause-refused c = none_at_front _ _ c.in-Err.ensures.refused

pub returns-in-None-clause-found : goal.returns-in-None-clause-found
returns-in-None-clause-found c = read_to_the_end c.in-Ok.ensures.found c.new-kinds.ensures.items c.in-None.ensures.none

pub returns-clause-refused : goal.returns-clause-refused
returns-clause-refused c = unread_behind c.in-Some.fault c.in-Ok.ensures.found c.in-Ok.ensures.suffix c.in-Some.ensures.some c.in-Some.ensures.fault
