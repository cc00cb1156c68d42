use Rattle.marker_diagrams.proofs.Canonicity.{same_or_separated}
use Rattle.marker_diagrams.proofs.laws.other_ids_are_separated.Goals as goal

pub returns : goal.returns
returns g c = λ kind nodes laws store. same_or_separated kind laws nodes store
