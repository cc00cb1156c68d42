use Rattle.std.proofs.Common.{◌≡◌, ◌++◌, length}
use Rattle.pep508_markers.proofs.run.split_alike.Given as goal

abbrev pub invariant-loop-next : goal.invariant-loop-next
invariant-loop-next l = l.fn.trees.items ≡ l.alike.items ++ l.trees.items

abbrev pub decreases-loop-next : goal.decreases-loop-next
decreases-loop-next l = length l.trees.items
