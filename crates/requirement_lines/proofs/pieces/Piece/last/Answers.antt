use Rattle.requirement_lines.proofs.PlaceLaws.{characters_last}
use Rattle.requirement_lines.proofs.pieces.Piece.last.Goals as goal

pub returns-clause-characters : goal.returns-clause-characters
returns-clause-characters c = characters_last c.args.self.place c.in-Some.c c.args.self.text.now c.in-Some.front.now c.in-Some.ensures.characters
