use Rattle.marker_terms.proofs.PlainLaws.{clause_printable}
use Rattle.marker_terms.proofs.SetLaws.{clauses_one}
use Rattle.marker_terms.proofs.term.one_clause.Goals as goal

pub returns-clause-means : goal.returns-clause-means
returns-clause-means c = clauses_one c.in_ok-clauses.clauses.items c.push.new.self.items c.args.terms c.in_ok-clauses.ensures.items c.in_ok-push.ensures.items

pub returns-clause-printable : goal.returns-clause-printable
returns-clause-printable c = clause_printable c.in_ok-clauses.clauses.items c.push.new.self.items c.args.terms c.in_ok-clauses.ensures.items c.in_ok-push.ensures.items
