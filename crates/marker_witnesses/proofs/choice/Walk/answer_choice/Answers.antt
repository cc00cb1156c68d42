use Rattle.marker_witnesses.proofs.ChoiceLaws.{picked}
use Rattle.marker_witnesses.proofs.choice.Walk.answer_choice.Goals as goal

pub returns : goal.returns
returns c = picked c.args.denied c.args.low c.args.confirmed c.args.high c.in_ok-first.first c.in_ok-found.found c.in_ok-first.ensures c.in_ok-found.ensures
