use Rattle.marker_diagrams.proofs.NodeLaws.{truth_child}
use Rattle.marker_diagrams.proofs.laws.nodes_mean_their_children.Goals as goal

pub returns : goal.returns
returns g c = λ kind nodes store t n e v. truth_child kind nodes t n v (λ i m f. (store.node i m f).below) e
