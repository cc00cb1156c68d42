use Rattle.pep440_version.proofs.Patterns.{one_pattern}
use Rattle.pep440_version.proofs.laws.text_says_one_pattern.Goals as goal

pub returns : goal.returns
returns c = λ text v w star end h k. one_pattern _ v w star end h k
