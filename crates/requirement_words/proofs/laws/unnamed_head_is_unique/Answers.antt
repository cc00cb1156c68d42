use Rattle.requirement_words.proofs.Readings.{unnamed_head_same}
use Rattle.requirement_words.proofs.laws.unnamed_head_is_unique.Goals as goal

pub returns : goal.returns
returns c = unnamed_head_same
