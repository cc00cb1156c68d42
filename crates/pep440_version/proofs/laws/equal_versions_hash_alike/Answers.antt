use Rattle.pep440_version.specs.OrderLaws.{version_alike}
use Rattle.pep440_version.proofs.laws.equal_versions_hash_alike.Goals as goal

pub returns : goal.returns
returns c = version_alike
