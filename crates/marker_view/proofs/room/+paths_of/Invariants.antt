use Rattle.std.specs.Prelude.{⊤}
use Rattle.std.specs.List.{AllByRecursion}
use Rattle.std.specs.Vec.Iter.{into_iter_items}
use Rattle.marker_diagrams.specs.Id.{place_of}
use Rattle.marker_view.specs.Branch.{IsBelow}
use Rattle.marker_view.proofs.room.+paths_of.Given as goal

abbrev pub decreases-paths_of : goal.decreases-paths_of
decreases-paths_of l = place_of l.tree.id

abbrev pub invariant-loop-clause : goal.invariant-loop-clause
invariant-loop-clause l = ⊤

abbrev pub invariant-loop-branch : goal.invariant-loop-branch
invariant-loop-branch l = AllByRecursion (λ b. IsBelow l.interner l.fn.tree b.child) (into_iter_items l.branch-iterator)
