use Rattle.marker_diagrams.proofs.ResidueLaws.{depends}
use Rattle.marker_nodes.specs.declared.node.Branches.TheVariants.{Truth}
use Rattle.marker_nodes.specs.Node.{markers}
use Rattle.marker_nodes.specs.Variable.{truth_variable}
use Rattle.marker_nodes.proofs.NodeLaws.{lawful}
use Rattle.marker_graph.specs.Contents.{truth}
use Rattle.marker_graph.proofs.SubtreeLaws.{subtree_held, subtree_means}
use Rattle.marker_view.proofs.QuestionLaws.{depended_is_plain}
use Rattle.marker_view.proofs.laws.questions_of_readable_truths_are_plain.Goals as goal

pub returns : goal.returns
returns d = λ c store t held readable s x high low sub node.
    let r = subtree_means c store t s held sub in
    depended_is_plain readable.0 readable.1 (truth c t) (truth c s) readable.2 r.0 r.1 r.2 (truth_variable x)
    (depends markers lawful c.nodes store s.id (Truth x high low) (subtree_held c store t s held sub) node)
