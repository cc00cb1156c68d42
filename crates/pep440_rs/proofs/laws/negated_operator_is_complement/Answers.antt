use Rattle.pep440_rs.proofs.Complements.{complements, python_complements}
use Rattle.pep440_rs.proofs.laws.negated_operator_is_complement.Goals as goal

pub returns : goal.returns
returns c = record { release = λ o n r p. complements r p o n; python_version = λ o n r p. python_complements r p o n }
