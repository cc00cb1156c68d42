-- The list has ids that the target leads to, with the children of those before the index.
use Rattle.selection_commands.proofs.ReachedLaws.{Reaches}
use Rattle.selection_commands.proofs.reached.reached.Given as goal

abbrev pub invariant-loop-index : goal.invariant-loop-index
invariant-loop-index l = Reaches l.target l.table l.fn.id l.index l.found.keys
