use Rattle.pep508_errors.proofs.UnderlineLaws.{underline_within}
use Rattle.pep508_errors.proofs.laws.underline_of_a_span.Goals as goal

pub returns : goal.returns
returns c text start len utf8 span = underline_within text start len utf8 span.inside span.begins span.ends
