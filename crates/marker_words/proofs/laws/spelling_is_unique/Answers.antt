use Rattle.marker_words.proofs.OperatorLaws.{operator_same}
use Rattle.marker_words.proofs.laws.spelling_is_unique.Goals as goal

pub returns : goal.returns
returns c text a b first second = (operator_same first second).1
