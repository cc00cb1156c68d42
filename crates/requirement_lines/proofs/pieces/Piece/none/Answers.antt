use Rattle.std.proofs.Common.{ap}
use Rattle.std.proofs.lemmas.Str.{chars-nil}
use Rattle.requirement_lines.specs.Character.{characters_at}
use Rattle.requirement_lines.proofs.pieces.Piece.none.Goals as goal

pub returns : goal.returns
returns c = ap (characters_at c.args.self.place) chars-nil
