use Rattle.pep440_rs.specs.Intervals.{HasTrimmedBounds, is_trimmed}
use Rattle.pep440_rs.proofs.python_version.same_minor_to_range.Goals as goal

pub returns-then-has_more-clause-bounds : goal.returns-then-has_more-clause-bounds
unfolding HasTrimmedBounds
returns-then-has_more-clause-bounds c = c.empty.ensures.bounds is_trimmed
