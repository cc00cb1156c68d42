use Rattle.std.proofs.Common.{refl}
use Rattle.marker_diagrams.specs.declared.node_id.TheConstants.NodeId.{TRUE, FALSE}
use Rattle.marker_nodes.specs.declared.node.Branches.TheVariants.{Truth}
use Rattle.marker_nodes.specs.Branches.{value_at}
use Rattle.marker_nodes.specs.Variable.{truth_variable, answer}
use Rattle.marker_simplifications.proofs.TruthLaws.{decided_children, decided_truth}
use Rattle.marker_simplifications.proofs.questions.asks.Goals as goal

pub place_joined-requires-clause-children : goal.place_joined-requires-clause-children
place_joined-requires-clause-children c = decided_children _ (truth_variable c.args.variable) (answer c.args.variable) (value_at (Truth c.args.variable TRUE FALSE)) (λ v. refl)

pub returns-clause-asks : goal.returns-clause-asks
returns-clause-asks c =
    let x = c.args.variable in
    decided_truth c.place_joined.new.self (truth_variable x) (answer x) (value_at (Truth x TRUE FALSE)) (λ v. refl) c.place_joined.result c.place_joined.ensures.id
