use Rattle.std.proofs.Common.{length}
use Rattle.requirement_lines.specs.Pieces.{IsEnd, characters_of}
use Rattle.metadata_files.proofs.NameLaws.{InName}
use Rattle.metadata_files.proofs.headers.split_name.Given as goal

abbrev pub invariant-loop-c : goal.invariant-loop-c
invariant-loop-c l = record {
  end : IsEnd l.line l.rest;
  name : InName (characters_of l.line) (characters_of l.rest);
}

abbrev pub decreases-loop-c : goal.decreases-loop-c
decreases-loop-c l = length l.rest.text.now
