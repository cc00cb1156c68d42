use Rattle.pep440_specifier.specs.OrderLaws.{specifier_total}
use Rattle.pep440_specifier.proofs.laws.order_is_total.Goals as goal

pub returns : goal.returns
returns c = specifier_total
