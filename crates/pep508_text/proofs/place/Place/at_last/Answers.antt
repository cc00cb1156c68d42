use Rattle.pep508_text.proofs.SuffixLaws.{last_begins}
use Rattle.pep508_text.proofs.place.Place.at_last.Goals as goal

pub split_at-requires : goal.split_at-requires
split_at-requires c = last_begins _ _ _ c.requires.2 c.requires.3
