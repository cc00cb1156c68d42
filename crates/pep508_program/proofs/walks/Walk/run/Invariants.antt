use Rattle.pep508_program.specs.Reporting.{Grows}
use Rattle.pep508_program.proofs.walks.Walk.run.Given as goal

abbrev pub invariant-loop-word : goal.invariant-loop-word
invariant-loop-word g l = Grows l.fn.self.report.tally l.self.report.tally
