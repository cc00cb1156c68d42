use Rattle.std.proofs.Common.{◌≡◌, length}
use Rattle.requirement_lines.specs.Pieces.{characters_of}
use Rattle.metadata_files.specs.Headers.{skip_space_back}
use Rattle.metadata_files.proofs.pieces.trim_end.Given as goal

abbrev pub invariant-loop-before : goal.invariant-loop-before
invariant-loop-before l = skip_space_back (characters_of l.fn.piece) ≡ skip_space_back (characters_of l.front)

abbrev pub decreases-loop-before : goal.decreases-loop-before
decreases-loop-before l = length l.front.text.now
