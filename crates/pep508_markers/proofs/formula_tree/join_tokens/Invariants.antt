use Rattle.std.proofs.Common.{◌≤◌, length}
use Rattle.std.specs.Vec.Iter.{into_iter_items}
use Rattle.marker_graph.specs.Contents.{IsKept}
use Rattle.pep508_markers.proofs.DoneLaws.{IsDone}
use Rattle.pep508_markers.proofs.formula_tree.join_tokens.Given as goal

abbrev pub invariant-loop-token : goal.invariant-loop-token
invariant-loop-token l = record {
  kept : IsKept l.fn.interner l.interner;
  counts : l.fn.interner.expansions ≤ l.interner.expansions;
  done : IsDone l.fn.formula.tokens.items (into_iter_items l.tokens) l.interner l.runs.items;
}

abbrev pub decreases-loop-token : goal.decreases-loop-token
decreases-loop-token l = length (into_iter_items l.tokens)
