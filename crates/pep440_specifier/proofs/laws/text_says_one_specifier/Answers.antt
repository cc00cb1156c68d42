use Rattle.pep440_specifier.proofs.Texts.{one_specifier}
use Rattle.pep440_specifier.proofs.laws.text_says_one_specifier.Goals as goal

pub returns : goal.returns
returns c = one_specifier
