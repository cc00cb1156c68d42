use Rattle.std.proofs.Common.{sym, ◌∙◌, subst}
use Rattle.requirement_lines.specs.Pieces.{line_of}
use Rattle.requirement_options.specs.Content.{said_in}
use Rattle.requirement_checks.specs.Findings.{fault_names, AddsNames}
use Rattle.requirement_checks.proofs.LineLaws.{adds_faults, adds_line}
use Rattle.requirement_checks.proofs.checker.Checker.check_content.Goals as goal

pub returns-in_default-clause-found : goal.returns-in_default-clause-found
returns-in_default-clause-found c =
    let line = c.args.line.now in
    let added = subst (λ x. AddsNames (fault_names x) c.args.findings.now.items c.add_faults.new.findings.items) c.as_slice.ensures.value c.in_ok-add_faults.ensures in
    adds_faults c.args.self.now.settings.folder.now (said_in line.content) line.faults.items c.args.findings.now.items c.add_faults.new.findings.items (sym c.in_default.ensures) added

pub returns-clause-found : goal.returns-clause-found
returns-clause-found c =
    let line = c.args.line.now in
    adds_line c.args.self.now.settings.folder.now (said_in line.content) (line_of c.in-Some.pieces.now, c.in-Some.form) c.as_str-text.result.now line.faults.items (sym c.in-Some.ensures) (c.as_str-text.ensures.value ∙ c.in_ok-owned.ensures) c.in_ok-listed.ensures.found
