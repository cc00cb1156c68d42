use Rattle.pep508_errors.proofs.UnderlineLaws.{underline_at_end}
use Rattle.pep508_errors.proofs.laws.underline_at_the_end.Goals as goal

pub returns : goal.returns
returns c text start len utf8 past = underline_at_end text start len utf8 past
