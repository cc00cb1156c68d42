use Rattle.marker_order.proofs.OrderLaws.{diagrams_total}
use Rattle.marker_order.proofs.laws.diagrams_are_in_a_total_order.Goals as goal

pub returns : goal.returns
returns c = diagrams_total
