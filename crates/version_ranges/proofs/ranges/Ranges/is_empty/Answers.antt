use Rattle.std.proofs.Common.{arith, vec_len}
use Rattle.version_ranges.proofs.SetLaws.{empty_then, empty_else}
use Rattle.version_ranges.proofs.ranges.Ranges.is_empty.Goals as goal

pub returns-then-not-self : goal.returns-then-not-self
returns-then-not-self g c =
    let f = c.args.self.now.cuts in
    empty_then g.met.T.Ord.total f.first f.rest.items (vec_len f.rest) c.is_empty.result f.ascending c.args.self.now.merged c.if-not-self.true (omega (arith, f.rest.ok.0)) c.is_empty.ensures

pub returns-else-not-self : goal.returns-else-not-self
returns-else-not-self g c =
    let f = c.args.self.now.cuts in
    empty_else g.met.T.Ord.total f.first f.rest.items f.ascending c.args.self.now.merged c.if-not-self.false
