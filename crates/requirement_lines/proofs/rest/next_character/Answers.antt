use Rattle.std.proofs.Common.{◌+◌, drop, ◌∙◌, arith, get_or}
use Rattle.requirement_lines.specs.Pieces.{line_of}
use Rattle.requirement_lines.proofs.LogicalLaws.{no_piece, line_of-drop}
use Rattle.requirement_lines.proofs.VariableLaws.{one_character}
use Rattle.requirement_lines.proofs.rest.next_character.Goals as goal

pub returns-in-Some : goal.returns-in-Some
returns-in-Some c = one_character c.args.rest.piece c.front.result c.in-Some.piece c.in-Some.c (line_of (drop c.args.rest.next c.args.line.now)) c.in-Some.ensures.characters c.front.ensures.parts c.front.ensures.place

pub returns-in-Some-first : goal.returns-in-Some-first
returns-in-Some-first c =
    let whole = get_or c.args.line.now c.loop-index.index no_piece in
    let one = one_character whole c.front-in-Some-first.result c.in-Some-first.piece c.in-Some-first.c (line_of (drop (c.loop-index.index + 1) c.args.line.now)) c.in-Some-first.ensures.characters c.front-in-Some-first.ensures.parts c.front-in-Some-first.ensures.place in
    (c.loop-index.invariant ∙ line_of-drop c.args.line.now c.loop-index.index (omega arith) ∙ one.0, one.1)
