use Rattle.requirement_checks.proofs.LineLaws.{hints_more}
use Rattle.requirement_checks.proofs.hints.add_hints.Goals as goal

pub returns : goal.returns
returns c = hints_more c.in_ok-add_own_hints.ensures (hints_more c.in_ok-add_package_hints.ensures c.in_ok-add_repeat.ensures)
