use Rattle.pep440_rs.proofs.Alike.{alike-trimmed}
use Rattle.pep440_rs.proofs.laws.tied_versions_are_trimmed_alike.Goals as goal

pub returns : goal.returns
returns c = alike-trimmed
