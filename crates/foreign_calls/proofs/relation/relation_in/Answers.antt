use Rattle.foreign_calls.proofs.RelationLaws.{first_refused, second_refused}
use Rattle.foreign_calls.proofs.relation.relation_in.Goals as goal

pub returns-in-Err-clause-refused : goal.returns-in-Err-clause-refused
returns-in-Err-clause-refused c = first_refused c.in-Err.ensures.refused

pub returns-in-Err-parse_marker-clause-refused : goal.returns-in-Err-parse_marker-clause-refused
returns-in-Err-parse_marker-clause-refused c = second_refused c.in-Err-parse_marker.ensures.refused
