use Rattle.project_files.proofs.EndLaws.{WaitsBelow}
use Rattle.project_files.proofs.endings.waiting.Given as goal

abbrev pub invariant-loop-link : goal.invariant-loop-link
invariant-loop-link l = WaitsBelow l.links l.link-index l.ended.items l.waits.items
