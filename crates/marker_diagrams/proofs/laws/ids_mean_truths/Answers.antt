use Rattle.std.proofs.Common.{ap}
use Rattle.marker_diagrams.proofs.NodeLaws.{truth_first}
use Rattle.marker_diagrams.proofs.NodeLaws.{truth_signed}
use Rattle.marker_diagrams.proofs.IdLaws.{signed_id_undone}
use Rattle.std.proofs.Common.{true, not}
use Rattle.marker_diagrams.proofs.laws.ids_mean_truths.Goals as goal

pub returns-clause-truth : goal.returns-clause-truth
returns-clause-truth g c = λ kind nodes store v. truth_first kind nodes v (λ i n e. (store.node i n e).below)

pub returns-clause-falsehood : goal.returns-clause-falsehood
returns-clause-falsehood g c = λ kind nodes store v. ap not (truth_first kind nodes v (λ i n e. (store.node i n e).below))

pub returns-clause-negation : goal.returns-clause-negation
returns-clause-negation g c = λ kind nodes t v. truth_signed kind nodes true t v

pub returns-clause-negated_twice : goal.returns-clause-negated_twice
returns-clause-negated_twice g c = λ t. signed_id_undone true t
