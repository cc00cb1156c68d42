use Rattle.node_hasher.proofs.WordLaws.{four_bytes}
use Rattle.node_hasher.proofs.NodeHasherHasher.write_u32.Goals as goal

pub returns : goal.returns
returns c = four_bytes c.args.self.now c.mix_part.new.self c.args.i c.mix_part.ensures c.ranges.i.fits
