use Rattle.project_files.specs.Found.{entries_in}
use Rattle.project_files.specs.Faults.{Judged}
use Rattle.project_files.proofs.judging.faults_of.Given as goal

abbrev pub invariant-loop-place : goal.invariant-loop-place
invariant-loop-place l = Judged (entries_in l.entries) l.place l.faults.items
