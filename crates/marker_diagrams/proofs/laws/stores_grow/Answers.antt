use Rattle.marker_diagrams.proofs.NodeLaws.{keeps_more}
use Rattle.marker_diagrams.proofs.StoreLaws.{empty_store, store_more}
use Rattle.marker_diagrams.proofs.laws.stores_grow.Goals as goal

pub returns-clause-empty : goal.returns-clause-empty
returns-clause-empty g c = λ kind. empty_store kind

pub returns-clause-longer : goal.returns-clause-longer
returns-clause-longer g c = λ kind nodes n laws store ready fresh. store_more kind laws nodes store n ready fresh

pub returns-clause-keeps : goal.returns-clause-keeps
returns-clause-keeps g c = λ kind nodes n. keeps_more kind n nodes
