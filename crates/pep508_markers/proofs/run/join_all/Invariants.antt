use Rattle.std.proofs.Common.{◌≡◌, ◌≤◌, ◌∷◌, length}
use Rattle.marker_environment.specs.Valuation.{Valuation}
use Rattle.marker_graph.specs.Contents.{IsKept}
use Rattle.pep508_markers.specs.Trees.{trees_of, truth_under, AreHeld}
use Rattle.pep508_markers.proofs.run.join_all.Given as goal

abbrev pub invariant-loop-next : goal.invariant-loop-next
invariant-loop-next l = record {
  kept : IsKept l.fn.interner l.interner;
  counts : l.fn.interner.expansions ≤ l.interner.expansions;
  held : AreHeld l.interner (l.joined ∷ l.trees.items);
  means : (v : Valuation) → truth_under l.interner l.connective (l.joined ∷ l.trees.items) v ≡ truth_under l.fn.interner l.fn.run.connective (trees_of l.fn.run) v;
}

abbrev pub decreases-loop-next : goal.decreases-loop-next
decreases-loop-next l = length l.trees.items
