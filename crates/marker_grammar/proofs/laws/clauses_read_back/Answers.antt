use Rattle.marker_grammar.proofs.ClauseLaws.{read_back}
use Rattle.marker_grammar.proofs.laws.clauses_read_back.Goals as goal

pub returns : goal.returns
returns c = read_back
