use Rattle.marker_walks.proofs.PossibleLaws.{false_out}
use Rattle.marker_walks.proofs.possible.is_known_out.Goals as goal

pub returns-then-is_false : goal.returns-then-is_false
returns-then-is_false c e extras versions nodes out = false_out extras versions nodes c.args.id (c.is_false.ensures.0 c.if-is_false.true)
