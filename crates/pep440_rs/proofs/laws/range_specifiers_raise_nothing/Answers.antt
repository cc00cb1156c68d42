use Rattle.pep440_rs.proofs.Stars.{range-raises}
use Rattle.pep440_rs.proofs.laws.range_specifiers_raise_nothing.Goals as goal

pub returns : goal.returns
returns c = range-raises
