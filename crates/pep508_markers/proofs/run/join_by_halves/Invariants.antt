use Rattle.std.proofs.Common.{◌≡◌, ◌≤◌, ◌∷◌, length}
use Rattle.marker_environment.specs.Valuation.{Valuation}
use Rattle.marker_graph.specs.Contents.{IsKept}
use Rattle.pep508_markers.specs.Trees.{truth_under, AreHeld}
use Rattle.pep508_markers.proofs.run.join_by_halves.Given as goal

abbrev pub invariant-loop-right : goal.invariant-loop-right
invariant-loop-right l = record {
  kept : IsKept l.fn.interner l.interner;
  counts : l.fn.interner.expansions ≤ l.interner.expansions;
  held : AreHeld l.interner (l.left ∷ l.trees.items);
  means : (v : Valuation) → truth_under l.interner l.connective (l.left ∷ l.trees.items) v ≡ truth_under l.fn.interner l.fn.connective (l.fn.first ∷ l.fn.others.items) v;
}

abbrev pub decreases-loop-right : goal.decreases-loop-right
decreases-loop-right l = length l.trees.items
