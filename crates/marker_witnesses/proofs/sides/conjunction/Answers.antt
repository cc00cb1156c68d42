use Rattle.marker_witnesses.proofs.SideLaws.{joined}
use Rattle.marker_witnesses.proofs.sides.conjunction.Goals as goal

pub returns-clause-means : goal.returns-clause-means
returns-clause-means c = joined c.args.interner.now c.and.new.interner c.args.one c.args.other c.and.new.self c.and.ensures.kept c.requires.one c.requires.other c.in_ok-and.ensures.means
