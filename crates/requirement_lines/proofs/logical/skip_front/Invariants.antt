use Rattle.std.proofs.Common.{◌≡◌, [], drop}
use Rattle.requirement_lines.specs.Pieces.{line_of}
use Rattle.requirement_lines.specs.Ends.{skip}
use Rattle.requirement_lines.specs.declared.sets.CharacterSet.TheVariants.{Space}
use Rattle.requirement_lines.proofs.logical.skip_front.Given as goal

abbrev pub invariant-loop-index : goal.invariant-loop-index
invariant-loop-index l = record {
  line : skip Space (line_of l.pieces) ≡ skip Space (line_of (drop l.index l.pieces));
  none : l.kept.items ≡ [];
}
