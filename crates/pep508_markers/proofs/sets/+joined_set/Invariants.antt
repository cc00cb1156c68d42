use Rattle.std.proofs.Common.{length}
use Rattle.pep508_markers.proofs.sets.+joined_set.Given as goal

abbrev pub decreases-joined_set : goal.decreases-joined_set
decreases-joined_set l = length l.trees.now
