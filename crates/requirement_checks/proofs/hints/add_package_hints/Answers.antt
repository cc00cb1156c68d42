use Rattle.requirement_checks.proofs.LineLaws.{hints_more}
use Rattle.requirement_checks.proofs.hints.add_package_hints.Goals as goal

pub returns : goal.returns
returns c = hints_more c.in_ok-add_url.ensures c.in_ok-add_requests.ensures
