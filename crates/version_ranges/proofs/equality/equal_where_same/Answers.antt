use Rattle.version_ranges.proofs.EqualLaws.{equal_values, unequal_point}
use Rattle.version_ranges.proofs.equality.equal_where_same.Goals as goal

pub returns-clause-equal : goal.returns-clause-equal
returns-clause-equal g c =
    let f = c.args.left.now in
    let h = c.args.right.now in
    equal_values g.met.T.Ord.total g.met.V.Eq.laws g.T.PartialEq.eq g.met.T.Ord.matches_eq f.first h.first f.rest.items h.rest.items

pub returns-clause-unequal : goal.returns-clause-unequal
returns-clause-unequal g c =
    let f = c.args.left.now in
    let h = c.args.right.now in
    unequal_point g.met.T.Ord.total g.met.V.Eq.laws g.T.PartialEq.eq g.met.T.Ord.matches_eq f.first h.first f.rest.items h.rest.items f.ascending h.ascending
    c.requires.left_merged c.requires.right_merged
