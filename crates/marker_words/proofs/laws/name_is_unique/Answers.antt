use Rattle.marker_words.proofs.ValueLaws.{one_value_named}
use Rattle.marker_words.proofs.laws.name_is_unique.Goals as goal

pub returns : goal.returns
returns c name a b first second = one_value_named name a b first second
