use Rattle.std.proofs.Common.{◌++◌, length}
use Rattle.requirement_lines.specs.Pieces.{IsEnd, characters_of, line_of}
use Rattle.requirement_lines.specs.Variables.{value_of, replaced}
use Rattle.requirement_lines.proofs.VariableLaws.{Replacing}
use Rattle.requirement_lines.proofs.variables.replace_piece.Given as goal

abbrev pub invariant-loop-c : goal.invariant-loop-c
invariant-loop-c l = record {
  end : IsEnd l.start l.rest;
  replacing : Replacing (value_of l.variables) (line_of l.others) (line_of l.fn.kept.items ++ replaced (value_of l.variables) l.inside (characters_of l.piece ++ line_of l.others)) (line_of l.kept.items) (characters_of l.start) (characters_of l.rest) l.within;
}

abbrev pub decreases-loop-c : goal.decreases-loop-c
decreases-loop-c l = length l.rest.text.now
