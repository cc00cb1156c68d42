use Rattle.pep508_text.proofs.SuffixLaws.{suffix_begins}
use Rattle.pep508_text.proofs.place.Place.before.Goals as goal

pub split_at-requires : goal.split_at-requires
split_at-requires c = suffix_begins c.requires
