use Rattle.pep440_rs.specs.Intervals.{HasTrimmedBounds, is_trimmed}
use Rattle.pep440_rs.proofs.lists.+minors_to_range.Goals as goal

pub returns-in-empty-clause-bounds : goal.returns-in-empty-clause-bounds
unfolding HasTrimmedBounds
returns-in-empty-clause-bounds t c = c.empty.ensures.bounds is_trimmed
