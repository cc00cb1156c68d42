use Rattle.marker_lines.proofs.SessionLaws.{state_from}
use Rattle.marker_lines.proofs.line_session.LineSession.with_key_and_room.Goals as goal

pub returns : goal.returns
returns c = state_from c.with_key_and_room.ensures c.in_ok-first_environment.ensures
