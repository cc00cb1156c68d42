use Rattle.marker_diagrams.proofs.Canonicity.{satisfied}
use Rattle.marker_diagrams.proofs.laws.other_ids_are_satisfied.Goals as goal

pub returns : goal.returns
returns g c = λ kind nodes laws store. satisfied kind laws nodes store
