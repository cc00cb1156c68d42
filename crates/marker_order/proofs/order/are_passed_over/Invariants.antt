use Rattle.marker_order.specs.Agreement.{AgreeUpTo}
use Rattle.marker_order.proofs.order.are_passed_over.Given as goal

abbrev pub invariant-loop : goal.invariant-loop
invariant-loop l = AgreeUpTo l.table l.other_table l.agreed
