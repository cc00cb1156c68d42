use Rattle.std.proofs.Common.{refl, sym, ◌∙◌}
use mathlib.Core.Bool.{beq}
use Rattle.std.proofs.lemmas.Bool.{and_parts}
use Rattle.std.specs.declared.ops.Bound.TheVariants.{Unbounded}
use Rattle.version_ranges.specs.Parts.{parts_of}
use Rattle.version_ranges.specs.Intervals.{intervals_of}
use Rattle.version_ranges.proofs.EqualLaws.{unequal_point, flags_equal, flags_differ}
use Rattle.version_ranges.proofs.SameParts.{parts_same, held_same}
use Rattle.version_ranges.proofs.SamePoints.{any_same}
use Rattle.version_ranges.proofs.IntervalLaws.{are_intervals}
use Rattle.version_ranges.proofs.EachPiece.{is_true}
use Rattle.version_ranges.proofs.laws.same_points_make_same_intervals.Goals as goal

pub returns-clause-equal : goal.returns-clause-equal
returns-clause-equal g c =
    let f = c.args.left.now.cuts in
    let h = c.args.right.now.cuts in
    λ e. is_true _ (λ n.
    let q = unequal_point g.met.T.Ord.total flags_equal g.T.PartialEq.eq g.met.T.Ord.matches_eq f.first h.first f.rest.items h.rest.items f.ascending h.ascending
    c.args.left.now.merged c.args.right.now.merged n in
    flags_differ _ _ q.1 (e q.0))

pub returns-clause-intervals : goal.returns-clause-intervals
returns-clause-intervals g c =
    let f = c.args.left.now.cuts in
    let h = c.args.right.now.cuts in
    λ e. let q = and_parts _ _ e in held_same g.T.PartialEq.eq (parts_of f) (parts_of h) (parts_same g.T.PartialEq.eq beq Unbounded Unbounded f.first h.first f.rest.items h.rest.items refl q.0 q.1)

pub returns-clause-points : goal.returns-clause-points
returns-clause-points g c =
    let f = c.args.left.now in
    let h = c.args.right.now in
    λ e p. (are_intervals g.met.T.Ord.total f f.cuts.ascending).covers p
    ∙ any_same g.met.T.Ord.total g.T.PartialEq.eq g.met.T.Ord.matches_eq (intervals_of f) (intervals_of h) p e
    ∙ sym ((are_intervals g.met.T.Ord.total h h.cuts.ascending).covers p)
