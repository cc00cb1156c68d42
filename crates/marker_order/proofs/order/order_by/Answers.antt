use Rattle.std.proofs.Common.{arith}
use Rattle.marker_order.proofs.Agreements.{agree_none, falsehoods_are_equal}
use Rattle.marker_order.proofs.order.order_by.Goals as goal

pub order_from-requires : goal.order_from-requires
order_from-requires g c = (
  omega (arith, c.requires.size),
  (
    c.requires.rules,
    (c.requires.places, record { agreed = agree_none c.args.table.now c.args.other_table.now; equal = falsehoods_are_equal c.args.table.now c.args.other_table.now c.requires.rules.left c.requires.rules.right g.row.N }),
  ),
)
