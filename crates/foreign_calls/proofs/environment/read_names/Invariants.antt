use Rattle.std.proofs.Common.{take}
use Rattle.foreign_calls.specs.Environment.{bytes_of as texts_of, Names}
use Rattle.foreign_calls.proofs.environment.read_names.Given as goal

abbrev pub invariant-loop-word : goal.invariant-loop-word
invariant-loop-word l = Names (texts_of (take l.word-index l.words)) l.names.items
