use Rattle.std.proofs.Common.{ap, ◌∙◌}
use Rattle.marker_graph.specs.Edges.{version_edges_left}
use Rattle.marker_witnesses.proofs.ChoiceLaws.{looked_all, looked_none, version_looked}
use Rattle.marker_witnesses.proofs.choice.Walk.version_choice.Goals as goal

pub loop-edge-init : goal.loop-edge-init
loop-edge-init c = looked_none _ _ _ _ (ap version_edges_left c.into_iter-edge-iterator.ensures.into_iter_gives ∙ c.edges-edge-items.ensures)

pub loop-edge-preserved : goal.loop-edge-preserved
loop-edge-preserved c = version_looked c.args.view _ _ c.in-Some.edge c.variable.result _ _ c.variable.ensures c.in-Some.ensures.steps c.in_ok-next.ensures c.loop-edge.invariant

pub returns : goal.returns
returns c = looked_all _ _ _ _ _ c.in-None.ensures.steps.0 c.loop-edge.invariant
