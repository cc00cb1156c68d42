use Rattle.std.proofs.Common.{sym, take, drop}
use Rattle.std.proofs.lemmas.List.{take-append-drop}
use Rattle.std.proofs.lemmas.Result.{err_from_is_err_and}
use Rattle.marker_parts.proofs.WholeLaws.{adds_kept}
use Rattle.marker_parts.proofs.parse.report_kinds.Goals as goal

pub returns-in_err-warning-clause-begun : goal.returns-in_err-warning-clause-begun
returns-in_err-warning-clause-begun g c =
    let p = err_from_is_err_and c.from_residual.result c.from_residual.ensures.1 in
    let i = c.loop-kind.kind-index in
    rw p.1 (take i c.args.kinds.now, drop i c.args.kinds.now, sym (take-append-drop i c.args.kinds.now), c.loop-kind.invariant.added)

pub returns-in_err-report-clause-begun : goal.returns-in_err-report-clause-begun
returns-in_err-report-clause-begun g c =
    let p = err_from_is_err_and c.from_residual-in_err-report.result c.from_residual-in_err-report.ensures.1 in
    let i = c.loop-kind.kind-index in
    rw p.1 (take i c.args.kinds.now, drop i c.args.kinds.now, sym (take-append-drop i c.args.kinds.now), adds_kept (g.R.Reporter.kinds c.args.reporter.now) (g.R.Reporter.kinds c.loop-kind.reporter) (g.R.Reporter.kinds c.report.new.self) (take i c.args.kinds.now) c.loop-kind.invariant.added c.in_err-report.ensures.kept)
