use Rattle.version_ranges.proofs.EqualLaws.{equal_values, unequal_point, flags_equal, flags_same, flags_differ}
use Rattle.version_ranges.proofs.equality.equal_where_same_points.Goals as goal

pub returns-clause-equal : goal.returns-clause-equal
returns-clause-equal g c =
    let f = c.args.left.now.cuts in
    let h = c.args.right.now.cuts in
    λ e p. flags_same _ _ (equal_values g.met.T.Ord.total flags_equal g.T.PartialEq.eq g.met.T.Ord.matches_eq f.first h.first f.rest.items h.rest.items e p)

pub returns-clause-unequal : goal.returns-clause-unequal
returns-clause-unequal g c =
    let f = c.args.left.now.cuts in
    let h = c.args.right.now.cuts in
    λ e.
    let q = unequal_point g.met.T.Ord.total flags_equal g.T.PartialEq.eq g.met.T.Ord.matches_eq f.first h.first f.rest.items h.rest.items f.ascending h.ascending
    c.args.left.now.merged c.args.right.now.merged e in
    (q.0, flags_differ _ _ q.1)
