use Rattle.marker_drawings.proofs.NumberLaws.{numbers_both}
use Rattle.marker_drawings.proofs.edges.edges_of_answers.Goals as goal

pub returns : goal.returns
returns c = numbers_both _ _ _ _ _ _ _ _ _ _ c.new-edges.ensures.items c.in_ok-push.ensures.items c.in_ok-push-2.ensures.items c.in_ok-yes.ensures c.in_ok-no.ensures
