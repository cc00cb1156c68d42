use Rattle.std.proofs.Common.{◌≡◌, drop, find}
use Rattle.requirement_findings.specs.Names.{is_written}
use Rattle.requirement_findings.proofs.name.named.Given as goal

abbrev pub invariant-loop-index : goal.invariant-loop-index
invariant-loop-index l = find (is_written l.text) l.names ≡ find (is_written l.text) (drop l.index l.names)
