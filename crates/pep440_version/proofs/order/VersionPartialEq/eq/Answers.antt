use Rattle.pep440_version.specs.OrderLaws.{same-eq}
use Rattle.pep440_version.proofs.order.VersionPartialEq.eq.Goals as goal

pub returns : goal.returns
returns c = same-eq c.args.self.now c.args.other.now c.is_same_version.result c.is_same_version.ensures.0 c.is_same_version.ensures.1
