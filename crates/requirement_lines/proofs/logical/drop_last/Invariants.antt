use Rattle.std.proofs.Common.{◌≡◌, vec_len}
use Rattle.requirement_lines.specs.Pieces.{line_of}
use Rattle.requirement_lines.specs.Ends.{without_last}
use Rattle.requirement_lines.proofs.logical.drop_last.Given as goal

abbrev pub invariant-loop-last : goal.invariant-loop-last
invariant-loop-last l = without_last (line_of l.fn.pieces.items) ≡ without_last (line_of l.pieces.items)

abbrev pub decreases-loop-last : goal.decreases-loop-last
decreases-loop-last l = vec_len l.pieces
