use Rattle.std.proofs.Common.{length, string_bytes}
use Rattle.requirement_lines.specs.Rest.{rest_of}
use Rattle.requirement_lines.proofs.VariableLaws.{Naming}
use Rattle.requirement_lines.proofs.variables.braced_name.Given as goal

abbrev pub invariant-loop-c : goal.invariant-loop-c
invariant-loop-c l = Naming (rest_of l.line l.rest) (string_bytes l.name) (rest_of l.line l.inside)

abbrev pub decreases-loop-c : goal.decreases-loop-c
decreases-loop-c l = length (rest_of l.line l.inside)
