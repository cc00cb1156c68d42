use Rattle.marker_view.specs.View.{view_total}
use Rattle.marker_view.proofs.laws.views_are_in_a_total_order.Goals as goal

pub returns : goal.returns
returns c = view_total
