use Rattle.requirement_words.proofs.Readings.{head_same}
use Rattle.requirement_words.proofs.laws.head_is_unique.Goals as goal

pub returns : goal.returns
returns c = head_same
