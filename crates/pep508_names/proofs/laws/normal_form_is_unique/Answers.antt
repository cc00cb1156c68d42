use Rattle.pep508_names.proofs.NameLaws.{normal_form-unique}
use Rattle.pep508_names.proofs.laws.normal_form_is_unique.Goals as goal

pub returns : goal.returns
returns c t m n g h = normal_form-unique t m n g h
