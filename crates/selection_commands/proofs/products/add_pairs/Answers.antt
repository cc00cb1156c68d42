use Rattle.selection_commands.proofs.ProductLaws.{pair_more}
use Rattle.selection_commands.proofs.products.add_pairs.Goals as goal

pub loop-other-preserved : goal.loop-other-preserved
loop-other-preserved g c = pair_more c.args.one c.args.second.now c.loop-other.other-index c.other-item.result _ _ _ c.loop-other-test.true c.other-item.is c.loop-other.invariant c.in_ok-push.ensures.items
