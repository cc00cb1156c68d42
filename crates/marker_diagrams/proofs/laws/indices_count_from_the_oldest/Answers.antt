use Rattle.std.proofs.Common.{add-one}
use Rattle.marker_diagrams.proofs.KeyLaws.{node_is}
use Rattle.marker_diagrams.proofs.laws.indices_count_from_the_oldest.Goals as goal

pub returns : goal.returns
returns g c = λ keys i. rw add-one (node_is keys i)
