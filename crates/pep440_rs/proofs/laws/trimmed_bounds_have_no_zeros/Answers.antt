use Rattle.pep440_rs.specs.Intervals.{HasTrimmedBounds, is_trimmed}
use Rattle.pep440_rs.proofs.Trimmed.{trimmed-means}
use Rattle.pep440_rs.proofs.laws.trimmed_bounds_have_no_zeros.Goals as goal

pub returns-clause-intervals : goal.returns-clause-intervals
unfolding HasTrimmedBounds
returns-clause-intervals c = c.iter.ensures.bounds is_trimmed c.requires

pub returns-clause-bounds : goal.returns-clause-bounds
returns-clause-bounds c = trimmed-means
