use Rattle.std.proofs.Common.{refl, false}
use Rattle.marker_diagrams.specs.Id.{id_of}
use Rattle.marker_diagrams.proofs.StoreLaws.{id_of_same}
use Rattle.marker_diagrams.proofs.laws.same_nodes_have_one_id.Goals as goal

pub returns : goal.returns
returns g c = λ kind nodes laws store n m i e h. id_of_same kind laws nodes store n m (id_of i false) e refl h
