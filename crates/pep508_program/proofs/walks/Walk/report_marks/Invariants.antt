use Rattle.pep508_program.specs.Reporting.{Grows}
use Rattle.pep508_program.proofs.walks.Walk.report_marks.Given as goal

abbrev pub invariant-loop-mark : goal.invariant-loop-mark
invariant-loop-mark g l = Grows l.fn.self.report.tally l.self.report.tally
