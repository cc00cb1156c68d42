use Rattle.std.proofs.Common.{length, ap, arith, rules}
use Rattle.version_ranges.specs.Clamp.{bound_of}
use Rattle.marker_nodes.specs.Node.{markers}
use Rattle.marker_diagrams.proofs.NodeLaws.{keeps_itself, keeps_both}
use Rattle.marker_simplifications.proofs.Assumptions.{found_none, assumed_none, next_after, next_assumed}
use Rattle.marker_simplifications.proofs.python.assume_all.Goals as goal

pub loop-child-init : goal.loop-child-init
loop-child-init c = record {
  kept = keeps_itself markers c.args.nodes.now;
  known = record { rules = c.requires.rules; found = found_none (bound_of c.args.lower) (bound_of c.args.upper) c.args.nodes.now c.new-known.result.entries c.new-known.ensures.empty };
  len = ap length c.in_ok-made.ensures.items;
  done = assumed_none (bound_of c.args.lower) (bound_of c.args.upper) c.args.nodes.now c.args.children.now c.in_ok-made.made.items c.in_ok-made.ensures.items;
}

pub assume_once-requires-clause-after : goal.assume_once-requires-clause-after
assume_once-requires-clause-after c =
    next_after c.args.nodes.now c.loop-child.nodes (bound_of c.args.lower) (bound_of c.args.upper) c.args.children.now c.requires.children c.loop-child.invariant.kept c.loop-child.child-index c.loop-child-test.true _

pub loop-child-preserved : goal.loop-child-preserved
loop-child-preserved c = record {
  kept = keeps_both markers c.args.nodes.now c.loop-child.nodes c.assume_once.new.nodes c.loop-child.invariant.kept c.in_ok-id.ensures.kept;
  known = c.in_ok-id.ensures.known;
  len = omega (arith, c.loop-child.invariant.len, c.in_ok-push.ensures.len);
  done = next_assumed c.args.nodes.now c.loop-child.nodes (bound_of c.args.lower) (bound_of c.args.upper) c.args.children.now c.requires.children c.loop-child.invariant.kept c.loop-child.child-index c.loop-child-test.true _
      c.assume_once.new.nodes c.in_ok-id.id c.loop-child.made.items _ c.in_ok-id.ensures.kept c.loop-child.invariant.len c.loop-child.invariant.done c.in_ok-id.ensures.assumed c.in_ok-push.ensures.ok;
}

pub returns-clause-assumed : goal.returns-clause-assumed
returns-clause-assumed c = record { count = search rules; assumed = c.loop-child.invariant.done }
