use Rattle.marker_witnesses.proofs.EdgeLaws.{picks_given}
use Rattle.marker_witnesses.proofs.choice.Walk.extra_choice.Goals as goal

pub returns : goal.returns
returns c = picks_given c.answer_choice.result _ _ _ _ _ _ c.edge-low.ensures c.edge-high.ensures c.answer_choice.ensures
