use Rattle.std.proofs.Common.{◌≡◌}
use Rattle.marker_environment.specs.Environment.{valuation_of, values_of}
use Rattle.marker_diagrams.specs.Id.{place_of}
use Rattle.marker_diagrams.specs.Diagram.{IsHeld, truth}
use Rattle.marker_nodes.specs.Node.{markers}
use Rattle.marker_walks.specs.Report.{AddsComparisons}
use Rattle.marker_walks.proofs.report.evaluate_and_report.Given as goal

abbrev pub invariant-loop-node : goal.invariant-loop-node
invariant-loop-node g l = record {
  held : IsHeld l.nodes l.at;
  same : truth markers l.nodes l.at (valuation_of (values_of l.environment) l.extras) ≡ truth markers l.nodes l.initial.at (valuation_of (values_of l.environment) l.extras);
  can_report : g.R.Reporter.can_report l.reporter;
  told : AddsComparisons (g.R.Reporter.kinds l.initial.reporter) (g.R.Reporter.kinds l.reporter);
}

abbrev pub decreases-loop-node : goal.decreases-loop-node
decreases-loop-node g l = place_of l.at
