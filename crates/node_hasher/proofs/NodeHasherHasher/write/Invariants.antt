use Rattle.std.proofs.Common.{◌≡◌}
use Rattle.node_hasher.specs.Hash.{mixed_words}
use Rattle.node_hasher.proofs.NodeHasherHasher.write.Given as goal

abbrev pub invariant-loop-i : goal.invariant-loop-i
invariant-loop-i l = l.self ≡ mixed_words l.initial.self l.bytes l.i
