use Rattle.std.proofs.Common.{◌∙◌, rules}
use Rattle.requirement_checks.proofs.LineLaws.{checked_text}
use Rattle.requirement_checks.proofs.checker.CheckerCheckLines.check_requirement.Goals as goal

pub returns : goal.returns
returns c =
    (record { found = checked_text c.args.self.now.settings.folder.now c.in_ok-listed.ensures.found (search rules) (search rules) (search rules) }, c.in_ok-listed.ensures.settings)
