use Rattle.std.proofs.Common.{◌≡◌, length}
use Rattle.requirement_lines.specs.Pieces.{characters_of}
use Rattle.requirement_lines.specs.Marks.{from_mark}
use Rattle.requirement_lines.proofs.pieces.Piece.from_mark.Given as goal

abbrev pub invariant-loop-c : goal.invariant-loop-c
invariant-loop-c l = from_mark l.mark l.may (characters_of l.fn.self) ≡ from_mark l.mark l.now (characters_of l.rest)

abbrev pub decreases-loop-c : goal.decreases-loop-c
decreases-loop-c l = length l.rest.text.now
