use Rattle.std.proofs.Common.{arith}
use Rattle.marker_walks.proofs.Disjoints.{nothing_apart}
use Rattle.marker_walks.proofs.disjoint.walk.Goals as goal

pub are_apart-requires : goal.are_apart-requires
are_apart-requires g c = (omega (arith, c.requires.size), (c.requires.ids, record { places = c.requires.places; apart = nothing_apart c.args.nodes.now g.row.N }))
