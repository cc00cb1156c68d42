use Rattle.std.proofs.Common.{◌∙◌, sym, ap, not, refl}
use Rattle.marker_environment.specs.Environment.{valuation_of, values_of}
use Rattle.marker_diagrams.specs.Id.{is_negated, signed_id}
use Rattle.marker_nodes.proofs.Descents.{down_smaller, down_held, down_means, end_means}
use Rattle.marker_walks.proofs.ReportLaws.{told_nothing, told_more}
use Rattle.marker_walks.proofs.report.evaluate_and_report.Goals as goal

pub loop-node-init : goal.loop-node-init
loop-node-init g c = record { held = c.requires.this; same = refl; can_report = c.requires.can_report; told = told_nothing (g.R.Reporter.kinds c.args.reporter.now) }

pub loop-node-smaller : goal.loop-node-smaller
loop-node-smaller g c =
    let u = c.negate-at.ensures ∙ ap (signed_id (is_negated c.loop-node.at)) c.child_in.ensures in
    let stands = c.in-Some.ensures.node in
    down_smaller c.args.nodes.now c.requires.rules c.loop-node.at c.negate-at.result c.in-Some.node.now stands (valuation_of (values_of c.args.environment.now) c.args.extras.now) u

pub loop-node-preserved : goal.loop-node-preserved
loop-node-preserved g c =
    let u = c.negate-at.ensures ∙ ap (signed_id (is_negated c.loop-node.at)) c.child_in.ensures in
    let stands = c.in-Some.ensures.node in
    let v = valuation_of (values_of c.args.environment.now) c.args.extras.now in
    record {
      held = down_held c.args.nodes.now c.requires.rules c.loop-node.at c.negate-at.result c.in-Some.node.now stands v u c.loop-node.invariant.held;
      same = down_means c.args.nodes.now c.requires.rules c.loop-node.at c.negate-at.result c.in-Some.node.now stands v u ∙ c.loop-node.invariant.same;
      can_report = c.report_node.ensures.again;
      told = told_more (g.R.Reporter.kinds c.args.reporter.now) (g.R.Reporter.kinds c.loop-node.reporter) (g.R.Reporter.kinds c.report_node.new.reporter) c.loop-node.invariant.told c.report_node.ensures.told;
    }

pub returns-in_err-report_node-clause-told : goal.returns-in_err-report_node-clause-told
returns-in_err-report_node-clause-told g c = told_more (g.R.Reporter.kinds c.args.reporter.now) (g.R.Reporter.kinds c.loop-node.reporter) (g.R.Reporter.kinds c.report_node.new.reporter) c.loop-node.invariant.told c.report_node.ensures.told

pub returns-clause-answer : goal.returns-clause-answer
returns-clause-answer g c =
    ap not c.is_complement.ensures
    ∙ sym (end_means c.args.nodes.now c.loop-node.at (valuation_of (values_of c.args.environment.now) c.args.extras.now) c.in_default.ensures.node) ∙ c.loop-node.invariant.same
