use Rattle.std.proofs.Common.{arith}
use Rattle.version_ranges.proofs.PartLaws.{are_pieces}
use Rattle.version_ranges.proofs.cuts.Cuts.pieces.Goals as goal

pub returns-clause-pieces : goal.returns-clause-pieces
returns-clause-pieces g c = are_pieces g.T.Ord.cmp g.met.T.Ord.total c.args.self.now c.args.self.now.ascending (omega (arith, c.args.self.now.rest.ok.0))
