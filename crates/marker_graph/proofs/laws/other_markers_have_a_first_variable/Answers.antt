use Rattle.marker_graph.proofs.SubtreeLaws.{first_variable}
use Rattle.marker_graph.proofs.laws.other_markers_have_a_first_variable.Goals as goal

pub returns : goal.returns
returns c = λ d store t i so other. let r = first_variable d store t i so other in (r.0, (r.1, r.2))
