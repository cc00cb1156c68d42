use Rattle.requirement_words.proofs.Readings.{specifiers_same_and_rest}
use Rattle.requirement_words.proofs.laws.specifiers_are_unique.Goals as goal

pub returns : goal.returns
returns c = specifiers_same_and_rest
