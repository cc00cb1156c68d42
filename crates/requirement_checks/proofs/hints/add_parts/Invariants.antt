use Rattle.requirement_checks.specs.Lines.{AddsHints}
use Rattle.requirement_checks.proofs.hints.add_parts.Given as goal

abbrev pub invariant-loop-index : goal.invariant-loop-index
invariant-loop-index l = AddsHints l.fn.findings.items l.findings.items
