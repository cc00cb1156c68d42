use Rattle.std.proofs.Common.{◌≡◌, ◌++◌, rules}
use Rattle.std.specs.List.{fold}
use Rattle.std.specs.Hash as fed
use Rattle.std.specs.Hash.{fed_then}
use Rattle.pep440_version.specs.Order.{dev_key, pre_key, significant}
use Rattle.pep440_version.specs.HashInput.{segment_writes}
use Rattle.pep440_version.proofs.order.VersionHash.hash.Goals as goal

pub returns : goal.returns
returns g c =
    let h1 : c.hash.new.state ≡ fold g.H.Hasher.write c.args.state.now (fed.u64 c.args.self.now.epoch) = search rules in
    let h2 : c.hash-2.new.state ≡ fold g.H.Hasher.write c.hash.new.state (fed.slice fed.u64 (significant c.args.self.now.release)) = search rules in
    let h3 : c.hash-3.new.state ≡ fold g.H.Hasher.write c.hash-2.new.state (fed.u8 (pre_key c.args.self.now).0) = search rules in
    let h4 : c.hash-4.new.state ≡ fold g.H.Hasher.write c.hash-3.new.state (fed.u64 (pre_key c.args.self.now).1) = search rules in
    let h5 : c.hash-5.new.state ≡ fold g.H.Hasher.write c.hash-4.new.state (fed.option fed.u64 c.args.self.now.post) = search rules in
    let h6 : c.hash-6.new.state ≡ fold g.H.Hasher.write c.hash-5.new.state (fed.u8 (dev_key c.args.self.now).0) = search rules in
    let h7 : c.hash-7.new.state ≡ fold g.H.Hasher.write c.hash-6.new.state (fed.u64 (dev_key c.args.self.now).1) = search rules in
    let h8 : c.hash_locals.new.state ≡ fold g.H.Hasher.write c.hash-7.new.state (fed.slice segment_writes c.args.self.now.locals) = search rules in
    let w = g.H.Hasher.write in
    let t8 = fed.slice segment_writes c.args.self.now.locals in
    let t7 = fed.u64 (dev_key c.args.self.now).1 ++ t8 in
    let t6 = fed.u8 (dev_key c.args.self.now).0 ++ t7 in
    let t5 = fed.option fed.u64 c.args.self.now.post ++ t6 in
    let t4 = fed.u64 (pre_key c.args.self.now).1 ++ t5 in
    let t3 = fed.u8 (pre_key c.args.self.now).0 ++ t4 in
    let t2 = fed.slice fed.u64 (significant c.args.self.now.release) ++ t3 in
    fed_then w _ _ _ (fed.u64 c.args.self.now.epoch) t2 h1
    (fed_then w _ _ _ (fed.slice fed.u64 (significant c.args.self.now.release)) t3 h2
    (fed_then w _ _ _ (fed.u8 (pre_key c.args.self.now).0) t4 h3
    (fed_then w _ _ _ (fed.u64 (pre_key c.args.self.now).1) t5 h4
    (fed_then w _ _ _ (fed.option fed.u64 c.args.self.now.post) t6 h5
    (fed_then w _ _ _ (fed.u8 (dev_key c.args.self.now).0) t7 h6
    (fed_then w _ _ _ (fed.u64 (dev_key c.args.self.now).1) t8 h7 h8))))))
