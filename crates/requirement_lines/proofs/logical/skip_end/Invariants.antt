use Rattle.std.proofs.Common.{◌≡◌, vec_len}
use Rattle.requirement_lines.specs.Pieces.{line_of}
use Rattle.requirement_lines.specs.Ends.{skip_back}
use Rattle.requirement_lines.specs.declared.sets.CharacterSet.TheVariants.{Space}
use Rattle.requirement_lines.proofs.logical.skip_end.Given as goal

abbrev pub invariant-loop-last : goal.invariant-loop-last
invariant-loop-last l = skip_back Space (line_of l.fn.pieces.items) ≡ skip_back Space (line_of l.pieces.items)

abbrev pub decreases-loop-last : goal.decreases-loop-last
decreases-loop-last l = vec_len l.pieces
