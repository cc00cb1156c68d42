use Rattle.std.specs.Str.{chars}
use Rattle.pep508_requirements.proofs.EndLaws.{marked_end}
use Rattle.pep508_requirements.proofs.end.read_marker.Goals as goal

pub returns-in-Ok-clause-means : goal.returns-in-Ok-clause-means
returns-in-Ok-clause-means g c = marked_end (chars c.args.rest.now) c.args.marker.now c.requires.suffix.utf8 c.requires.tail _ _ _ c.in-Ok.ensures.means
