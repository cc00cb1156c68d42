use Rattle.std.proofs.Common.{take}
use Rattle.requirement_checks.specs.Findings.{fault_names, AddsNames}
use Rattle.requirement_checks.proofs.option_faults.add_faults.Given as goal

abbrev pub invariant-loop-index : goal.invariant-loop-index
invariant-loop-index l = AddsNames (fault_names (take l.index l.faults)) l.fn.findings.items l.findings.items
