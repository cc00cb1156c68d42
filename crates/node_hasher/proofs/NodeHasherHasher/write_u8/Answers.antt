use Rattle.node_hasher.proofs.WordLaws.{one_byte}
use Rattle.node_hasher.proofs.NodeHasherHasher.write_u8.Goals as goal

pub returns : goal.returns
returns c = one_byte c.args.self.now c.mix_part.new.self c.args.i c.mix_part.ensures
