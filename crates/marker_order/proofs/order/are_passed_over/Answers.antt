use Rattle.marker_order.proofs.Agreements.{agree_more, passed_over_by}
use Rattle.marker_order.proofs.order.are_passed_over.Goals as goal

pub returns-then-index-agreed-clause-equal : goal.returns-then-index-agreed-clause-equal
returns-then-index-agreed-clause-equal c = λ _.
    passed_over_by c.args.table.now c.args.other_table.now c.requires.rules.left c.requires.rules.right c.loop.agreed c.loop.invariant c.args.id c.args.other c.ne.result c.ne.ensures c.if-ne.false
    c.index.result c.in-Some.index c.index.ensures c.in-Some.is c.if-index-agreed.true

pub loop-preserved : goal.loop-preserved
loop-preserved c = agree_more c.args.table.now c.args.other_table.now c.loop.agreed c.loop.invariant (c.agree_at.ensures c.if-not-agree_at.false)

pub loop-init : goal.loop-init
loop-init c = c.requires.agreed
