use Rattle.marker_walks.proofs.ReportLaws.{told_more}
use Rattle.marker_walks.proofs.report.report_piece.Goals as goal

pub returns-clause-told : goal.returns-clause-told
returns-clause-told g c = told_more (g.R.Reporter.kinds c.args.reporter.now) (g.R.Reporter.kinds c.report_bound.new.reporter) (g.R.Reporter.kinds c.report_bound-2.new.reporter) c.report_bound.ensures.told c.report_bound-2.ensures.told
