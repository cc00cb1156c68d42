use Rattle.pep440_rs.specs.Intervals.{HasTrimmedBounds, is_trimmed}
use Rattle.pep440_rs.proofs.Between.{version_clones}
use Rattle.pep440_rs.proofs.Trimmed.{clones-keep}
use Rattle.pep440_rs.proofs.lists.listed_versions.Goals as goal

pub from_points-requires : goal.from_points-requires
from_points-requires c = record { clones = version_clones }

pub returns-clause-bounds : goal.returns-clause-bounds
unfolding HasTrimmedBounds
returns-clause-bounds c = c.in_ok-listed.ensures.bounds is_trimmed (clones-keep is_trimmed) c.in_ok-trimmed.ensures.trimmed
