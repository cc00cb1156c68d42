use Rattle.std.proofs.Common.{rules}
use Rattle.marker_walks.proofs.PossibleLaws.{nothing_out}
use Rattle.marker_walks.proofs.possible.walk.Goals as goal

pub possible-requires-clause-memory : goal.possible-requires-clause-memory
possible-requires-clause-memory g c = record { places = search rules; out = nothing_out c.args.extras.now c.args.versions c.args.nodes.now g.row.N }
