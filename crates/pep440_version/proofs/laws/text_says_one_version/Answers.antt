use Rattle.pep440_version.proofs.Patterns.{one_version}
use Rattle.pep440_version.proofs.laws.text_says_one_version.Goals as goal

pub returns : goal.returns
returns c = λ text v w h k. one_version _ v w h k
