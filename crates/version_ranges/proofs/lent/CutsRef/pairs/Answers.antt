use Rattle.version_ranges.proofs.PairSteps.{are_in_pieces, are_pairs}
use Rattle.version_ranges.proofs.lent.CutsRef.pairs.Goals as goal

pub returns-clause-pairs : goal.returns-clause-pairs
returns-clause-pairs g c = are_pairs g.T.Ord.cmp g.met.T.Ord.total c.args.self.now c.args.other.now c.args.self.now.ascending c.args.other.now.ascending

pub returns-clause-pieces : goal.returns-clause-pieces
returns-clause-pieces g c = are_in_pieces g.T.Ord.cmp g.met.T.Ord.total c.args.self.now c.args.other.now c.args.self.now.ascending c.args.other.now.ascending
