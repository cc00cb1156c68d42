use Rattle.std.proofs.Common.{refl, sym, ◌∙◌}
use Rattle.std.proofs.lemmas.Bool.{and_parts, true≢false}
use Rattle.std.specs.declared.ops.Bound.TheVariants.{Unbounded}
use Rattle.version_ranges.proofs.EqualLaws.{equal_values, unequal_point}
use Rattle.version_ranges.proofs.SameParts.{parts_same, steps_same}
use Rattle.version_ranges.proofs.EachPiece.{is_true}
use Rattle.version_ranges.proofs.laws.same_values_make_same_pieces.Goals as goal

pub returns-clause-equal : goal.returns-clause-equal
returns-clause-equal g c =
    let f = c.args.left.now in
    let h = c.args.right.now in
    λ e. is_true _ (λ n.
    let q = unequal_point g.met.T.Ord.total g.met.V.Eq.laws g.T.PartialEq.eq g.met.T.Ord.matches_eq f.first h.first f.rest.items h.rest.items f.ascending h.ascending
    c.requires.left_merged c.requires.right_merged n in
    true≢false (sym (e q.0) ∙ q.1))

pub returns-clause-pieces : goal.returns-clause-pieces
returns-clause-pieces g c =
    let f = c.args.left.now in
    let h = c.args.right.now in
    λ e. let q = and_parts _ _ e in parts_same g.T.PartialEq.eq g.V.PartialEq.eq Unbounded Unbounded f.first h.first f.rest.items h.rest.items refl q.0 q.1

pub returns-clause-values : goal.returns-clause-values
returns-clause-values g c =
    let f = c.args.left.now in
    let h = c.args.right.now in
    λ e. equal_values g.met.T.Ord.total g.met.V.Eq.laws g.T.PartialEq.eq g.met.T.Ord.matches_eq f.first h.first f.rest.items h.rest.items
    (steps_same g.T.PartialEq.eq g.V.PartialEq.eq Unbounded Unbounded f.first h.first f.rest.items h.rest.items e)
