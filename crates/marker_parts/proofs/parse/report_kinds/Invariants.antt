use Rattle.std.proofs.Common.{take}
use Rattle.pep508_errors.specs.Kinds.{Adds}
use Rattle.marker_parts.proofs.parse.report_kinds.Given as goal

abbrev pub invariant-loop-kind : goal.invariant-loop-kind
invariant-loop-kind g l = record {
  can_report : g.R.Reporter.can_report l.reporter;
  added : Adds (g.R.Reporter.kinds l.initial.reporter) (g.R.Reporter.kinds l.reporter) (take l.kind-index l.kinds);
}
