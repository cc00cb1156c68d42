use Rattle.std.proofs.Common.{◌∙◌}
use Rattle.std.proofs.lemmas.Result.{IfOk-weaker}
use Rattle.pep440_rs.specs.Intervals.{HasTrimmedBounds, is_trimmed}
use Rattle.pep440_rs.proofs.Between.{between-same}
use Rattle.pep440_rs.proofs.intervals.between.Goals as goal

pub returns-clause-set : goal.returns-clause-set
returns-clause-set c = IfOk-weaker c.from_range_bounds.result _ _ (λ r h p. h p ∙ between-same _ _ _ _ p c.in_ok-lower.ensures.same c.in_ok-upper.ensures.same) c.from_range_bounds.ensures.set

pub returns-clause-bounds : goal.returns-clause-bounds
unfolding HasTrimmedBounds
returns-clause-bounds c = IfOk-weaker c.from_range_bounds.result _ _ (λ r h. h is_trimmed c.in_ok-lower.ensures.trimmed c.in_ok-upper.ensures.trimmed) c.from_range_bounds.ensures.bounds
