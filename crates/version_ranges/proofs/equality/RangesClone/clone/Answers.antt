use Rattle.version_ranges.proofs.EqualLaws.{equal_merged, flags_equal, flags_same}
use Rattle.version_ranges.proofs.equality.RangesClone.clone.Goals as goal

pub invariant_of-result : goal.invariant_of-result
invariant_of-result g c =
    let f = c.args.self.now in
    let h = c.in_ok-cuts.cuts in
    record { merged = equal_merged g.met.T.Ord.total flags_equal g.T.PartialEq.eq g.met.T.Ord.matches_eq f.cuts.first h.first f.cuts.rest.items h.rest.items c.in_ok-cuts.ensures.cases.0 f.merged }

pub returns : goal.returns
returns g c = record { cases = (c.in_ok-cuts.ensures.cases.0, λ p. flags_same _ _ (c.in_ok-cuts.ensures.cases.1 p), c.in_ok-cuts.ensures.cases.2) }
