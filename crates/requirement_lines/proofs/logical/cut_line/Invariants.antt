use Rattle.std.proofs.Common.{◌≡◌, ◌++◌, true, drop}
use Rattle.requirement_lines.specs.Pieces.{line_of}
use Rattle.requirement_lines.specs.Marks.{before}
use Rattle.requirement_lines.proofs.logical.cut_line.Given as goal

abbrev pub invariant-loop-index : goal.invariant-loop-index
invariant-loop-index l = before l.mark true (line_of l.pieces) ≡ line_of l.kept.items ++ before l.mark l.may (line_of (drop l.index l.pieces))
