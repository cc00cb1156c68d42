use Rattle.pep440_specifier.proofs.Ties.{same_tied, tied_same}
use Rattle.pep440_specifier.proofs.laws.order_ties_the_same_specifier.Goals as goal

pub returns : goal.returns
returns c = λ s t. (tied_same s t, same_tied s t)
