use Rattle.std.proofs.Common.{◌≡◌, length}
use Rattle.requirement_lines.specs.Pieces.{characters_of}
use Rattle.requirement_lines.specs.Ends.{skip}
use Rattle.requirement_lines.proofs.pieces.Piece.skip.Given as goal

abbrev pub invariant-loop-c : goal.invariant-loop-c
invariant-loop-c l = skip l.set (characters_of l.fn.self) ≡ skip l.set (characters_of l.rest)

abbrev pub decreases-loop-c : goal.decreases-loop-c
decreases-loop-c l = length l.rest.text.now
