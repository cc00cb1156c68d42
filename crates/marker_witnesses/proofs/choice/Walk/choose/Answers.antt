use Rattle.std.proofs.lemmas.Bool.{both_ways}
use Rattle.marker_witnesses.proofs.ChoiceLaws.{chosen, passed}
use Rattle.marker_witnesses.proofs.choice.Walk.choose.Goals as goal

pub returns-then-is_false : goal.returns-then-is_false
returns-then-is_false c = passed c.args.chosen c.args.step c.args.subtree (c.is_false.ensures.0 c.if-is_false.true)

pub returns : goal.returns
returns c = chosen c.args.chosen c.args.step c.args.subtree c.in_ok-rank.rank c.better.result (λ e. both_ways _ c.if-is_false.false (c.is_false.ensures.1 e)) c.better.ensures
