use Rattle.requirement_checks.proofs.LineLaws.{hints_more, hints_none}
use Rattle.requirement_checks.proofs.hints.add_requests.Goals as goal

pub loop-index-init : goal.loop-index-init
loop-index-init c = hints_none c.args.findings.now.items

pub loop-index-preserved : goal.loop-index-preserved
loop-index-preserved c = hints_more c.loop-index.invariant c.in_ok-add_request.ensures
