use Rattle.requirement_checks.proofs.LineLaws.{hints_more}
use Rattle.requirement_checks.proofs.hints.add_own_hints.Goals as goal

pub returns : goal.returns
returns c = hints_more c.in_ok-add_text_hints.ensures c.in_ok-add_marker_hints.ensures
