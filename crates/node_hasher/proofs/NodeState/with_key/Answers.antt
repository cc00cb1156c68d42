use mathlib.Core.Path.{refl}
use Rattle.node_hasher.specs.Hash.{keyed}
use Rattle.node_hasher.proofs.NodeState.with_key.Goals as goal

pub returns : goal.returns
unfolding keyed
returns c = refl
