use Rattle.std.proofs.Common.{ap, ◌∙◌}
use Rattle.requirement_findings.specs.Names.{severity_of}
use Rattle.requirement_checks.proofs.LineLaws.{hints_one}
use Rattle.requirement_checks.proofs.hints.add_hint.Goals as goal

pub returns : goal.returns
returns c = hints_one c.in_ok-hint.hint c.in_ok-push.ensures.items (ap severity_of c.in_ok-hint.ensures ∙ c.requires)
