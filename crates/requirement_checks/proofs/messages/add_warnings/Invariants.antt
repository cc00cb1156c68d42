use Rattle.std.proofs.Common.{take}
use Rattle.requirement_checks.specs.Findings.{warning_names, AddsNames}
use Rattle.requirement_checks.specs.Reading.{kinds_of}
use Rattle.requirement_checks.proofs.messages.add_warnings.Given as goal

abbrev pub invariant-loop-index : goal.invariant-loop-index
invariant-loop-index l = AddsNames (warning_names (kinds_of (take l.index l.warnings))) l.fn.findings.items l.findings.items
