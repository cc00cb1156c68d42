use Rattle.std.proofs.Common.{◌≡◌, ap, subst}
use Rattle.std.specs.Prelude.{IfOk}
use Rattle.marker_environment.specs.Environment.{valuation_of, values_of}
use Rattle.marker_diagrams.specs.Diagram.{truth}
use Rattle.marker_nodes.specs.Node.{markers}
use Rattle.marker_graph.proofs.tree.MarkerTree.evaluate_reporter.Goals as goal

pub returns-clause-answer : goal.returns-clause-answer
returns-clause-answer g c =
    subst (λ nodes. IfOk c.evaluate_and_report.result (λ b. b ≡ truth markers nodes c.args.self.now.id (valuation_of (values_of c.args.environment.now) c.args.extras.now))) (ap (λ x. x.nodes) c.interner.view_is) c.evaluate_and_report.ensures.answer
