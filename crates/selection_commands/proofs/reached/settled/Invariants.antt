-- The id has the same truth in the target.
use Rattle.marker_diagrams.specs.Id.{place_of}
use Rattle.selection_commands.specs.Reached.{IsSettled}
use Rattle.selection_commands.proofs.reached.settled.Given as goal

abbrev pub invariant-loop-node : goal.invariant-loop-node
invariant-loop-node l = IsSettled l.target l.table l.fn.id l.at

abbrev pub decreases-loop-node : goal.decreases-loop-node
decreases-loop-node l = place_of l.at
