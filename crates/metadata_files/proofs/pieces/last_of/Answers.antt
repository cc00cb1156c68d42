use Rattle.requirement_lines.proofs.PlaceLaws.{characters_last}
use Rattle.metadata_files.proofs.pieces.last_of.Goals as goal

pub returns-clause-characters : goal.returns-clause-characters
returns-clause-characters c = characters_last c.args.piece.place c.in-Some.c c.args.piece.text.now c.in-Some.front.now c.in-Some.ensures.characters
