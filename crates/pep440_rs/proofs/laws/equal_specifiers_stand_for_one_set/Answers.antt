use Rattle.pep440_rs.proofs.Equals.{comparisons_same, specifiers_same}
use Rattle.pep440_rs.proofs.laws.equal_specifiers_stand_for_one_set.Goals as goal

pub returns : goal.returns
returns c = record { release = specifiers_same; python_version = comparisons_same }
