use Rattle.std.proofs.Common.{◌∙◌, ap, ◌++◌}
use Rattle.marker_terms.proofs.NearLaws.{near_more}
use Rattle.marker_terms.proofs.endings.near_places.Goals as goal

pub loop-term-preserved : goal.loop-term-preserved
loop-term-preserved c =
    near_more c.args.endings.now c.args.clause.now c.loop-term.term-index c.term-item.result c.loop-term.near.items c.extend_from_slice.new.self.items c.loop-term-test.true c.term-item.is (c.in_ok-extend_from_slice.ensures.items ∙ ap (λ x. c.loop-term.near.items ++ x) c.ending_with.ensures) c.loop-term.invariant
