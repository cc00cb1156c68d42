-- The subtrees of the edges so far have numbers.
use Rattle.std.proofs.Common.{map}
use Rattle.marker_graph.specs.Edges.{version_edges_left}
use Rattle.marker_graph.specs.Kind.{version_edges}
use Rattle.marker_drawings.specs.Drawing.{targets_of}
use Rattle.marker_drawings.proofs.NumberLaws.{Passed}
use Rattle.marker_drawings.proofs.edges.edges_of_versions.Given as goal

abbrev pub invariant-loop-edge : goal.invariant-loop-edge
invariant-loop-edge l = Passed (map (λ e. e.value) (version_edges l.fn.view)) (map (λ e. e.value) (version_edges_left l.edge-iterator)) l.fn.found.keys l.found.keys (targets_of l.edges.items)
