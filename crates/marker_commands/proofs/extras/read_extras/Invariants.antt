use Rattle.std.proofs.Common.{take}
use Rattle.marker_commands.specs.Extras.{bytes_of as texts_of, Names}
use Rattle.marker_commands.proofs.extras.read_extras.Given as goal

abbrev pub invariant-loop-word : goal.invariant-loop-word
invariant-loop-word l = Names (texts_of (take l.word-index l.words)) l.names.items
