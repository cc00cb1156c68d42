use Rattle.project_files.specs.Links.{Settled}
use Rattle.project_files.proofs.endings.settle.Given as goal

abbrev pub invariant-loop-place : goal.invariant-loop-place
invariant-loop-place l = Settled l.fn.ended.items l.ended.items l.waits.items l.place l.changed
