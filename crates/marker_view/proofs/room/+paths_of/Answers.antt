use Rattle.std.proofs.Common.{subst, sym}
use Rattle.std.specs.List.{AllByRecursion}
use Rattle.marker_view.specs.Branch.{IsBelow}
use Rattle.marker_view.proofs.WalkLaws.{each_branch}
use Rattle.marker_view.proofs.room.+paths_of.Goals as goal

pub loop-branch-init : goal.loop-branch-init
loop-branch-init t c =
    subst (AllByRecursion (λ b. IsBelow c.args.interner.now c.args.tree b.child)) (sym c.into_iter-branch-iterator.ensures.into_iter_gives.0)
    (each_branch (λ b. IsBelow c.args.interner.now c.args.tree b.child) c.in_ok-found.found.items c.in_ok-found.ensures.each)

pub loop-branch-preserved : goal.loop-branch-preserved
loop-branch-preserved t c =
    (subst (AllByRecursion (λ b. IsBelow c.args.interner.now c.args.tree b.child)) c.in-Some-branch.ensures.steps.0 c.loop-branch.invariant).1
