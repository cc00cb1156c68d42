use Rattle.std.proofs.Common.{◌≡◌, length}
use Rattle.requirement_lines.specs.Pieces.{characters_of}
use Rattle.requirement_lines.specs.Ends.{skip_back}
use Rattle.requirement_lines.proofs.pieces.Piece.skip_back.Given as goal

abbrev pub invariant-loop-before : goal.invariant-loop-before
invariant-loop-before l = skip_back l.set (characters_of l.fn.self) ≡ skip_back l.set (characters_of l.front)

abbrev pub decreases-loop-before : goal.decreases-loop-before
decreases-loop-before l = length l.front.text.now
