use Rattle.std.proofs.Common.{not}
use Rattle.std.specs.Prelude.{count_by}
use Rattle.project_files.proofs.EndLaws.{EndedBelow}
use Rattle.project_files.proofs.endings.ended_of.Given as goal

abbrev pub invariant-loop-ended : goal.invariant-loop-ended
invariant-loop-ended l = EndedBelow l.links l.count l.ended.items

abbrev pub decreases-loop-ended : goal.decreases-loop-ended
decreases-loop-ended l = count_by not l.ended.items
