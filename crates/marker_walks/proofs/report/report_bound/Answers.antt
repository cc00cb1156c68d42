use Rattle.marker_walks.proofs.ReportLaws.{told_once}
use Rattle.marker_walks.proofs.report.report_bound.Goals as goal

pub returns-in_ok-warning-in-Included-clause-told : goal.returns-in_ok-warning-in-Included-clause-told
returns-in_ok-warning-in-Included-clause-told g c = told_once c.report.result (g.R.Reporter.kinds c.args.reporter.now) (g.R.Reporter.kinds c.report.new.self) c.report.ensures.taken c.report.ensures.kept
