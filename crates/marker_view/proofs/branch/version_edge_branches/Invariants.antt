use Rattle.std.proofs.Common.{◌≡◌, true}
use Rattle.std.specs.List.{list_all}
use Rattle.version_ranges.specs.Bounds.{all_cuts}
use Rattle.pep440_version.specs.Order.{version_cmp}
use Rattle.pep440_rs.specs.Bounds.{is_release}
use Rattle.marker_graph.specs.Edges.{version_edges_left}
use Rattle.marker_graph.specs.Kind.{version_edges}
use Rattle.marker_view.specs.Branch.{HavePrintableBranches}
use Rattle.marker_view.proofs.EdgeLaws.{edge_passes, Passed}
use Rattle.marker_view.proofs.branch.version_edge_branches.Given as goal

abbrev pub invariant-loop-edge : goal.invariant-loop-edge
invariant-loop-edge l = record {
  passed : Passed version_cmp (λ v. v.version l.view.variable) (all_cuts is_release l.view.cuts.now ≡ true) (version_edges l.view) (version_edges_left l.edge-iterator) l.branches.items;
  releases : all_cuts is_release l.view.cuts.now ≡ true → list_all (edge_passes is_release) (version_edges_left l.edge-iterator) ≡ true;
  printable : HavePrintableBranches l.branches.items;
}
