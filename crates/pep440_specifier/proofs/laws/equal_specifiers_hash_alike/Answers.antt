use Rattle.pep440_specifier.specs.OrderLaws.{specifier_alike}
use Rattle.pep440_specifier.proofs.laws.equal_specifiers_hash_alike.Goals as goal

pub returns : goal.returns
returns c = specifier_alike
