use Rattle.std.proofs.Common.{sym, ◌∙◌, arith}
use Rattle.marker_diagrams.proofs.IdLaws.{same_id_is}
use Rattle.marker_simplifications.proofs.SetLaws.{first_bounds, first_points, last_bounds, last_points, two_left}
use Rattle.marker_simplifications.proofs.value_set.points_of.Goals as goal

pub returns-then-eq-2-clause-points : goal.returns-then-eq-2-clause-points
returns-then-eq-2-clause-points g c =
    let two = two_left c.in_ok-sets.sets.items c.pop.new.self.items c.pop-2.new.self.items (c.in-Some-pop.first, c.in-Some-pop.first_set) (c.in-Some.last, c.in-Some.last_set) c.in-Some.ensures.items c.in-Some-pop.ensures.items
    (omega (arith, c.len.ensures, c.if-len-gt0.false, c.pop-2.new.self.ok.0)) in
    first_points g.T.Ord.cmp c.args.edges.now c.args.inside c.in_ok-sets.sets.items (c.in-Some-pop.first, c.in-Some-pop.first_set) (c.in-Some.last, c.in-Some.last_set) two c.in_ok-sets.ensures.gathered
    (same_id_is c.in-Some-pop.first.now c.args.inside (sym c.eq.ensures ∙ c.if-eq.true))
    (same_id_is c.in-Some.last.now c.not.result (sym c.eq-then-eq.ensures ∙ c.if-eq-2.true) ∙ c.not.ensures)

pub returns-then-eq-4-clause-points : goal.returns-then-eq-4-clause-points
returns-then-eq-4-clause-points g c =
    let two = two_left c.in_ok-sets.sets.items c.pop.new.self.items c.pop-2.new.self.items (c.in-Some-pop.first, c.in-Some-pop.first_set) (c.in-Some.last, c.in-Some.last_set) c.in-Some.ensures.items c.in-Some-pop.ensures.items
    (omega (arith, c.len.ensures, c.if-len-gt0.false, c.pop-2.new.self.ok.0)) in
    last_points g.T.Ord.cmp c.args.edges.now c.args.inside c.in_ok-sets.sets.items (c.in-Some-pop.first, c.in-Some-pop.first_set) (c.in-Some.last, c.in-Some.last_set) two c.in_ok-sets.ensures.gathered
    (same_id_is c.in-Some-pop.first.now c.not-then-eq-3.result (sym c.eq-then-eq-3.ensures ∙ c.if-eq-4.true) ∙ c.not-then-eq-3.ensures)
    (same_id_is c.in-Some.last.now c.args.inside (sym c.eq-2.ensures ∙ c.if-eq-3.true))

pub returns-then-eq-2-clause-bounds : goal.returns-then-eq-2-clause-bounds
returns-then-eq-2-clause-bounds g c =
    let two = two_left c.in_ok-sets.sets.items c.pop.new.self.items c.pop-2.new.self.items (c.in-Some-pop.first, c.in-Some-pop.first_set) (c.in-Some.last, c.in-Some.last_set) c.in-Some.ensures.items c.in-Some-pop.ensures.items
    (omega (arith, c.len.ensures, c.if-len-gt0.false, c.pop-2.new.self.ok.0)) in
    first_bounds g.T.Clone.is_clone c.args.edges.now c.in_ok-sets.sets.items (c.in-Some-pop.first, c.in-Some-pop.first_set) (c.in-Some.last, c.in-Some.last_set) two c.in_ok-sets.ensures.bounds

pub returns-then-eq-4-clause-bounds : goal.returns-then-eq-4-clause-bounds
returns-then-eq-4-clause-bounds g c =
    let two = two_left c.in_ok-sets.sets.items c.pop.new.self.items c.pop-2.new.self.items (c.in-Some-pop.first, c.in-Some-pop.first_set) (c.in-Some.last, c.in-Some.last_set) c.in-Some.ensures.items c.in-Some-pop.ensures.items
    (omega (arith, c.len.ensures, c.if-len-gt0.false, c.pop-2.new.self.ok.0)) in
    last_bounds g.T.Clone.is_clone c.args.edges.now c.in_ok-sets.sets.items (c.in-Some-pop.first, c.in-Some-pop.first_set) (c.in-Some.last, c.in-Some.last_set) two c.in_ok-sets.ensures.bounds
