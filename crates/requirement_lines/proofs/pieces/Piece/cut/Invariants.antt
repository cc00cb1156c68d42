use Rattle.std.proofs.Common.{length}
use Rattle.requirement_lines.specs.Pieces.{IsEnd, characters_of}
use Rattle.requirement_lines.proofs.PlaceLaws.{Cuts}
use Rattle.requirement_lines.proofs.pieces.Piece.cut.Given as goal

abbrev pub invariant-loop-c : goal.invariant-loop-c
invariant-loop-c l = record {
  end : IsEnd l.fn.self l.rest;
  cuts : Cuts l.mark l.may l.now (characters_of l.fn.self) (characters_of l.rest);
}

abbrev pub decreases-loop-c : goal.decreases-loop-c
decreases-loop-c l = length l.rest.text.now
