use Rattle.pep440_rs.proofs.Between.{version_clones}
use Rattle.pep440_rs.proofs.laws.version_clones_are_equal.Goals as goal

pub returns : goal.returns
returns c = version_clones
