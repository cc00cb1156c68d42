use Rattle.std.proofs.Common.{length, IsUtf8}
use Rattle.std.specs.Prelude.{map}
use Rattle.requirement_lines.specs.Character.{characters}
use Rattle.metadata_files.specs.Lines.{folded_lines}
use Rattle.metadata_files.specs.Headers.{entry_of}
use Rattle.metadata_files.proofs.HeaderLaws.{Reading}
use Rattle.metadata_files.proofs.headers.read_headers.Given as goal

abbrev pub invariant-loop-rest : goal.invariant-loop-rest
invariant-loop-rest l = record {
  read : Reading (folded_lines (characters l.fn.text)) (folded_lines (characters l.rest)) (map entry_of l.fields.items);
  utf8 : IsUtf8 l.rest;
}

abbrev pub decreases-loop-rest : goal.decreases-loop-rest
decreases-loop-rest l = length l.rest
