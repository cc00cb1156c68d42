use Rattle.std.proofs.Common.{subst}
use Rattle.marker_witnesses.specs.Choice.{GoesOn}
use Rattle.marker_witnesses.proofs.EdgeLaws.{leads_to_true}
use Rattle.marker_witnesses.proofs.path.path_to_true.Goals as goal

pub returns-then-is_false : goal.returns-then-is_false
returns-then-is_false c = c.is_false.ensures.0 c.if-is_false.true

pub returns : goal.returns
returns c =
    leads_to_true c.args.interner.now c.args.tree c.loop-path.at c.loop-path.path.items c.loop-path.invariant.live (subst (GoesOn c.args.interner.now c.loop-path.at) c.in_default.is c.in_ok-choice.ensures) c.loop-path.invariant.same
