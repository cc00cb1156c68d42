use Rattle.std.proofs.Common.{refl, sym}
use Rattle.selection_commands.proofs.ReachedLaws.{settled_below, settled_on}
use Rattle.selection_commands.proofs.reached.settled.Goals as goal

pub loop-node-init : goal.loop-node-init
loop-node-init c = record { held = c.requires.held; same = λ v a. refl }

pub loop-node-smaller : goal.loop-node-smaller
loop-node-smaller c =
    settled_below c.args.target.now c.args.table.now c.requires.rules c.args.id c.loop-node.at c.negate-at.result c.in-Some-child_in.child c.in-Some.node.now
    (sym c.in-Some.ensures.node) (sym c.in-Some-child_in.ensures) c.negate-at.ensures

pub loop-node-preserved : goal.loop-node-preserved
loop-node-preserved c =
    settled_on c.args.target.now c.args.table.now c.requires.rules c.args.id c.loop-node.at c.negate-at.result c.in-Some-child_in.child c.in-Some.node.now
    (sym c.in-Some.ensures.node) (sym c.in-Some-child_in.ensures) c.negate-at.ensures c.loop-node.invariant
