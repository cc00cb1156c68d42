use Rattle.marker_walks.proofs.ReportLaws.{told_nothing, told_more}
use Rattle.marker_walks.proofs.report.report_order.Goals as goal

pub loop-piece-init : goal.loop-piece-init
loop-piece-init g c = record { can_report = c.requires; told = told_nothing (g.R.Reporter.kinds c.args.reporter.now) }

pub loop-piece-preserved : goal.loop-piece-preserved
loop-piece-preserved g c = record {
  can_report = c.report_piece.ensures.again;
  told = told_more (g.R.Reporter.kinds c.args.reporter.now) (g.R.Reporter.kinds c.loop-piece.reporter) (g.R.Reporter.kinds c.report_piece.new.reporter) c.loop-piece.invariant.told c.report_piece.ensures.told;
}

pub returns-in_err-report_piece-clause-told : goal.returns-in_err-report_piece-clause-told
returns-in_err-report_piece-clause-told g c = told_more (g.R.Reporter.kinds c.args.reporter.now) (g.R.Reporter.kinds c.loop-piece.reporter) (g.R.Reporter.kinds c.report_piece.new.reporter) c.loop-piece.invariant.told c.report_piece.ensures.told

pub returns-then-is_up_to-clause-told : goal.returns-then-is_up_to-clause-told
returns-then-is_up_to-clause-told g c = told_more (g.R.Reporter.kinds c.args.reporter.now) (g.R.Reporter.kinds c.loop-piece.reporter) (g.R.Reporter.kinds c.report_piece.new.reporter) c.loop-piece.invariant.told c.report_piece.ensures.told
