use Rattle.std.proofs.Common.{◌≡◌, ◌++◌, false, drop}
use Rattle.requirement_lines.specs.Pieces.{line_of}
use Rattle.requirement_lines.specs.Variables.{value_of, replaced}
use Rattle.requirement_lines.proofs.variables.replace_variables.Given as goal

abbrev pub invariant-loop-index : goal.invariant-loop-index
invariant-loop-index l = replaced (value_of l.variables) false (line_of l.line) ≡ line_of l.kept.items ++ replaced (value_of l.variables) l.inside (line_of (drop l.index l.line))
