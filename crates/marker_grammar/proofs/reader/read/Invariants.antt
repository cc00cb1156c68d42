use Rattle.std.proofs.Common.{◌≡◌, length}
use Rattle.marker_grammar.specs.Reader.{IsSound, IsOpened}
use Rattle.marker_grammar.proofs.ReaderLaws.{Follows}
use Rattle.marker_grammar.proofs.reader.read.Given as goal

abbrev pub invariant-loop-wanted : goal.invariant-loop-wanted
invariant-loop-wanted l = record {
  text : l.text ≡ l.reader.text.now;
  sound : IsSound l.reader;
  follows : Follows l.text l.wanted l.reader;
  opened : IsOpened l.wanted l.reader;
}

abbrev pub decreases-loop-wanted : goal.decreases-loop-wanted
decreases-loop-wanted l = length l.reader.rest.now
