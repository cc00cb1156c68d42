-- The edges so far were looked at.
use Rattle.pep440_version.specs.Order.{version_cmp}
use Rattle.marker_graph.specs.Edges.{version_edges_left}
use Rattle.marker_graph.specs.Kind.{version_edges}
use Rattle.marker_witnesses.proofs.ChoiceLaws.{Looked}
use Rattle.marker_witnesses.proofs.choice.Walk.version_choice.Given as goal

abbrev pub invariant-loop-edge : goal.invariant-loop-edge
invariant-loop-edge l = Looked version_cmp (λ v. v.version l.fn.view.variable) (version_edges l.fn.view) (version_edges_left l.edge-iterator) l.chosen
