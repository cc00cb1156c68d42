use mathlib.Core.Path.{refl}
use Rattle.node_hasher.specs.Hash.{folded, mixed}
use Rattle.node_hasher.proofs.NodeHasher.mix.Goals as goal

pub returns : goal.returns
unfolding mixed folded
returns c = refl
