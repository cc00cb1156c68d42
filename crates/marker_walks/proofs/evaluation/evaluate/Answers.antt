use Rattle.std.proofs.Common.{◌∙◌, sym, ap, not}
use Rattle.marker_environment.specs.Environment.{valuation_of, values_of}
use Rattle.marker_diagrams.specs.Id.{is_negated, signed_id}
use Rattle.marker_nodes.proofs.Descents.{down_held, down_means, end_means}
use Rattle.marker_walks.proofs.evaluation.evaluate.Goals as goal

pub loop-node-preserved : goal.loop-node-preserved
loop-node-preserved c =
    let u = c.negate-at.ensures ∙ ap (signed_id (is_negated c.loop-node.at)) c.child_in.ensures in
    let stands = c.in-Some.ensures.node in
    let v = valuation_of (values_of c.args.environment.now) c.args.extras.now in
    record {
      held = down_held c.args.nodes.now c.requires.rules c.loop-node.at c.negate-at.result c.in-Some.node.now stands v u c.loop-node.invariant.held;
      same = down_means c.args.nodes.now c.requires.rules c.loop-node.at c.negate-at.result c.in-Some.node.now stands v u ∙ c.loop-node.invariant.same;
    }

pub returns : goal.returns
returns c =
    ap not c.is_complement.ensures ∙ sym (end_means c.args.nodes.now c.loop-node.at (valuation_of (values_of c.args.environment.now) c.args.extras.now) c.in_default.ensures.node) ∙ c.loop-node.invariant.same
