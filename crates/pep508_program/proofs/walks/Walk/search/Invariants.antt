use Rattle.pep508_program.specs.Reporting.{Grows}
use Rattle.pep508_program.proofs.walks.Walk.search.Given as goal

abbrev pub invariant-loop : goal.invariant-loop
invariant-loop g l = Grows l.fn.self.report.tally l.self.report.tally
