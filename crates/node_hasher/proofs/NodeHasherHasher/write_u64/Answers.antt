use Rattle.node_hasher.proofs.WordLaws.{eight_bytes}
use Rattle.node_hasher.proofs.NodeHasherHasher.write_u64.Goals as goal

pub returns : goal.returns
returns c = eight_bytes c.args.self.now c.mix.new.self c.args.i c.mix.ensures c.ranges.i.fits
