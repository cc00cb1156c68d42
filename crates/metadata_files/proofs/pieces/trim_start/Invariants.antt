use Rattle.std.proofs.Common.{◌≡◌, length}
use Rattle.requirement_lines.specs.Pieces.{characters_of}
use Rattle.metadata_files.specs.Headers.{skip_space}
use Rattle.metadata_files.proofs.pieces.trim_start.Given as goal

abbrev pub invariant-loop-c : goal.invariant-loop-c
invariant-loop-c l = skip_space (characters_of l.fn.piece) ≡ skip_space (characters_of l.rest)

abbrev pub decreases-loop-c : goal.decreases-loop-c
decreases-loop-c l = length l.rest.text.now
