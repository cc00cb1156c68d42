use Rattle.std.proofs.Common.{◌+◌, ◌%◌, ◌^◌}
use mathlib.Core.Path.{ap}
use Rattle.node_hasher.specs.declared.NodeHasher.{NodeHasher}
use Rattle.node_hasher.specs.Hash.{mixed, mixed_part}
use Rattle.node_hasher.proofs.NodeHasher.mix_part.Goals as goal

pub returns : goal.returns
unfolding mixed mixed_part
returns c = ap (λ (h : NodeHasher). let r : NodeHasher = record { state = (h.state + c.args.count) % 2 ^ 64; multiplier = h.multiplier } in r) c.mix.ensures
