use Rattle.pep440_version.specs.OrderLaws.{same-tied, tied-same}
use Rattle.pep440_version.proofs.laws.order_ties_the_same_version.Goals as goal

pub returns : goal.returns
returns c = λ v w. (tied-same v w, same-tied v w)
