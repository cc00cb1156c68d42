use Rattle.pep440_rs.specs.Intervals.{HasTrimmedBounds, is_trimmed}
use Rattle.pep440_rs.proofs.lists.listed_minors.Goals as goal

pub returns-then-has_long-clause-bounds : goal.returns-then-has_long-clause-bounds
unfolding HasTrimmedBounds
returns-then-has_long-clause-bounds c = c.empty.ensures.bounds is_trimmed
