use Rattle.std.proofs.Common.{◌≡◌, map, ap, ◌∙◌}
use Rattle.version_ranges.specs.Parts.{Part}
use Rattle.pep440_version.specs.Parts.{Parts}
use Rattle.marker_graph.specs.declared.tree.MarkerTree.{MarkerTree}
use Rattle.marker_graph.specs.Edges.{version_edges_left}
use Rattle.marker_graph.specs.Kind.{version_edges}
use Rattle.marker_drawings.proofs.NumberLaws.{passed_all, passed_none, passed_one}
use Rattle.marker_drawings.proofs.edges.edges_of_versions.Goals as goal

pub loop-edge-init : goal.loop-edge-init
loop-edge-init c =
    let e : version_edges_left c.into_iter-edge-iterator.result ≡ version_edges c.args.view = ap version_edges_left c.into_iter-edge-iterator.ensures.into_iter_gives ∙ c.edges-edge-items.ensures in
    passed_none _ _ _ _ (ap (map (λ (e : Part Parts MarkerTree). e.value)) e) c.new-edges.ensures.items

pub loop-edge-preserved : goal.loop-edge-preserved
loop-edge-preserved c =
    passed_one _ _ _ _ _ _ _ _ _ _ (ap (map (λ (e : Part Parts MarkerTree). e.value)) c.in-Some.ensures.steps) c.in_ok-push.ensures.items c.in_ok-target.ensures c.loop-edge.invariant

pub returns : goal.returns
returns c = passed_all _ _ _ _ _ (ap (map (λ (e : Part Parts MarkerTree). e.value)) c.in-None.ensures.steps.0) c.loop-edge.invariant
