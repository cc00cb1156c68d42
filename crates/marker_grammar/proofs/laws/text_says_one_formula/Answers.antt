use Rattle.marker_grammar.proofs.OneReading.{one_reading}
use Rattle.marker_grammar.proofs.laws.text_says_one_formula.Goals as goal

pub returns : goal.returns
returns c text f kinds first g others second = one_reading first second
