use Rattle.std.proofs.Common.{[], subst}
use Rattle.requirement_checks.specs.Lines.{Adds, IsJudgedOf}
use Rattle.requirement_options.specs.Content.{said_in}
use Rattle.requirement_checks.proofs.checker.CheckerCheckLines.check_line.Goals as goal

pub returns : goal.returns
returns c =
    let folder = c.args.self.now.settings.folder.now in
    let new = c.check_content.new.findings.items in
    let line = c.in_ok-line.line in
    let added = subst (λ x. Adds (IsJudgedOf folder (said_in line.content)) line.faults.items x new) c.new-findings.ensures.items c.in_ok-listed.ensures.found in
    (record { read = c.in_ok-line.ensures; found = subst (λ r. Adds (IsJudgedOf folder r.said) r.faults [] new) c.in_ok-line.ensures added }, c.in_ok-listed.ensures.settings)
