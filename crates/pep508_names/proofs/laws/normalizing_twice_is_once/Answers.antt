use Rattle.pep508_names.proofs.NameLaws.{normal_form-own}
use Rattle.pep508_names.proofs.laws.normalizing_twice_is_once.Goals as goal

pub returns : goal.returns
returns c t n h = normal_form-own t n h
