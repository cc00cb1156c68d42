use Rattle.selection_commands.proofs.ProductLaws.{pairs_more}
use Rattle.selection_commands.proofs.products.product.Goals as goal

pub loop-one-preserved : goal.loop-one-preserved
loop-one-preserved g c = pairs_more c.args.first.now c.args.second.now c.loop-one.one-index c.one-item.result _ _ c.loop-one-test.true c.one-item.is c.loop-one.invariant c.in_ok-add_pairs.ensures
