use Rattle.std.proofs.Common.{◌≡◌, true, string_bytes}
use Rattle.std.specs.Prelude.{⊤}
use Rattle.std.specs.List.{list_all}
use Rattle.version_ranges.specs.Bounds.{all_cuts}
use Rattle.marker_words.specs.Compare.{text_cmp}
use Rattle.marker_terms.specs.Plain.{is_plain}
use Rattle.marker_graph.specs.Edges.{string_edges_left}
use Rattle.marker_graph.specs.Kind.{string_edges}
use Rattle.marker_view.specs.Branch.{HavePrintableBranches}
use Rattle.marker_view.proofs.EdgeLaws.{edge_passes, Passed}
use Rattle.marker_view.proofs.branch.text_edge_branches.Given as goal

abbrev pub invariant-loop-edge : goal.invariant-loop-edge
invariant-loop-edge l = record {
  passed : Passed text_cmp (λ v. v.text l.view.variable) ⊤ (string_edges l.view) (string_edges_left l.edge-iterator) l.branches.items;
  plain : all_cuts (λ t. is_plain (string_bytes t)) l.view.cuts.now ≡ true → list_all (edge_passes is_plain) (string_edges_left l.edge-iterator) ≡ true;
  printable : all_cuts (λ t. is_plain (string_bytes t)) l.view.cuts.now ≡ true → HavePrintableBranches l.branches.items;
}
