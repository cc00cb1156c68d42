use Rattle.std.proofs.Common.{length}
use Rattle.pep440_rs.proofs.lists.+minors_to_range.Given as goal

abbrev pub decreases-minors_to_range : goal.decreases-minors_to_range
decreases-minors_to_range l = length l.versions.now
