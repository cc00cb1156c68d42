use Rattle.marker_diagrams.proofs.ListLaws.{listed}
use Rattle.marker_diagrams.proofs.laws.subtrees_can_be_listed.Goals as goal

pub returns : goal.returns
returns g c = λ kind nodes store lists t. listed kind nodes (λ i n e. (store.node i n e).below) lists t
