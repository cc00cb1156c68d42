use Rattle.std.proofs.Common.{subst}
use Rattle.requirement_checks.specs.Findings.{fault_names, AddsNames}
use Rattle.requirement_checks.proofs.LineLaws.{adds_others}
use Rattle.requirement_checks.proofs.checker.add_others.Goals as goal

pub returns : goal.returns
returns c =
    let faults = subst (λ x. AddsNames (fault_names x) c.args.findings.now.items c.add_faults.new.findings.items) c.as_slice.ensures.value c.in_ok-add_faults.ensures in
    adds_others c.args.job.line.now.faults.items c.args.findings.now.items c.add_faults.new.findings.items c.finish.new.findings.items faults c.in_ok-listed.ensures
