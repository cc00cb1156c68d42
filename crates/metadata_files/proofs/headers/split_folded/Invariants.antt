use Rattle.std.proofs.Common.{◌≤◌, length}
use Rattle.requirement_lines.specs.Pieces.{IsEnd, characters_of}
use Rattle.metadata_files.proofs.FoldedLaws.{InFolded}
use Rattle.metadata_files.proofs.headers.split_folded.Given as goal

abbrev pub invariant-loop-c : goal.invariant-loop-c
invariant-loop-c l = record {
  end : IsEnd l.whole l.rest;
  within : length l.rest.text.now ≤ length l.whole.text.now;
  line : InFolded (characters_of l.whole) (characters_of l.rest);
}

abbrev pub decreases-loop-c : goal.decreases-loop-c
decreases-loop-c l = length l.rest.text.now
