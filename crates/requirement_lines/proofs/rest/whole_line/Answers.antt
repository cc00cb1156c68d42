use Rattle.std.proofs.Common.{◌++◌, ap, ◌∙◌}
use Rattle.requirement_lines.specs.Pieces.{line_of}
use Rattle.requirement_lines.proofs.PlaceLaws.{characters_nil}
use Rattle.requirement_lines.proofs.rest.whole_line.Goals as goal

pub returns : goal.returns
returns c = λ line. ap (λ x. x ++ line_of line) (c.whole.ensures.characters ∙ characters_nil)
