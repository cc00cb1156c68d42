use Rattle.pep508_names.proofs.IdentifierLaws.{names_are_identifiers}
use Rattle.pep508_names.proofs.laws.names_are_identifiers.Goals as goal

pub returns : goal.returns
returns c t = names_are_identifiers t
