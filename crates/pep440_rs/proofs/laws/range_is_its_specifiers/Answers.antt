use Rattle.pep440_rs.proofs.Specified.{specifiers-mean}
use Rattle.pep440_rs.proofs.laws.range_is_its_specifiers.Goals as goal

pub returns : goal.returns
returns c = λ lower upper p. specifiers-mean p lower upper
