use Rattle.requirement_words.proofs.Readings.{extras_same_and_rest}
use Rattle.requirement_words.proofs.laws.extras_are_unique.Goals as goal

pub returns : goal.returns
returns c = extras_same_and_rest
