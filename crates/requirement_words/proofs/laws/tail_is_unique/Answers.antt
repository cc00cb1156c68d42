use Rattle.requirement_words.proofs.Readings.{tail_same}
use Rattle.requirement_words.proofs.laws.tail_is_unique.Goals as goal

pub returns : goal.returns
returns c = tail_same
