use Rattle.std.proofs.lemmas.Result.{IfOk-weaker}
use Rattle.pep440_rs.specs.Intervals.{HasTrimmedBounds, is_trimmed}
use Rattle.pep440_rs.proofs.Between.{version_clones}
use Rattle.pep440_rs.proofs.Trimmed.{clones-keep}
use Rattle.pep440_rs.proofs.lists.either.Goals as goal

pub union-requires : goal.union-requires
union-requires c = assumption version_clones

pub returns-clause-bounds : goal.returns-clause-bounds
unfolding HasTrimmedBounds
returns-clause-bounds c = IfOk-weaker c.union.result _ _ (λ r h. h is_trimmed (clones-keep is_trimmed) c.requires.left c.requires.right) c.union.ensures.bounds
