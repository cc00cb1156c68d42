use Rattle.std.proofs.lemmas.Result.{IfOk-weaker}
use Rattle.pep440_rs.specs.Intervals.{HasTrimmedBounds, is_trimmed}
use Rattle.pep440_rs.proofs.Between.{version_clones}
use Rattle.pep440_rs.proofs.Trimmed.{clones-keep}
use Rattle.pep440_rs.proofs.intervals.outside.Goals as goal

pub complement-requires : goal.complement-requires
complement-requires c = assumption version_clones

pub returns-clause-bounds : goal.returns-clause-bounds
unfolding HasTrimmedBounds
returns-clause-bounds c = IfOk-weaker c.complement.result _ _ (λ r h. h is_trimmed (clones-keep is_trimmed) c.requires) c.complement.ensures.bounds
