use Rattle.marker_walks.specs.Report.{AddsComparisons}
use Rattle.marker_walks.proofs.report.report_order.Given as goal

abbrev pub invariant-loop-piece : goal.invariant-loop-piece
invariant-loop-piece g l = record {
  can_report : g.R.Reporter.can_report l.reporter;
  told : AddsComparisons (g.R.Reporter.kinds l.initial.reporter) (g.R.Reporter.kinds l.reporter);
}
