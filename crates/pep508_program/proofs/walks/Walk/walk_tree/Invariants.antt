use Rattle.pep508_program.specs.Reporting.{Grows}
use Rattle.pep508_program.proofs.walks.Walk.walk_tree.Given as goal

abbrev pub invariant-loop-found : goal.invariant-loop-found
invariant-loop-found g l = Grows l.fn.self.report.tally l.self.report.tally
