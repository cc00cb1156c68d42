use Rattle.std.proofs.Common.{◌≡◌, [], true, drop}
use Rattle.requirement_lines.specs.Pieces.{line_of}
use Rattle.requirement_lines.specs.Marks.{from_mark}
use Rattle.requirement_lines.specs.declared.sets.Mark.TheVariants.{Options}
use Rattle.requirement_lines.proofs.logical.options_of.Given as goal

abbrev pub invariant-loop-index : goal.invariant-loop-index
invariant-loop-index l = record {
  line : from_mark Options true (line_of l.line) ≡ from_mark Options l.may (line_of (drop l.index l.line));
  none : l.kept.items ≡ [];
}
