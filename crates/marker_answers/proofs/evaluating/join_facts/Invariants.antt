-- The marker says what the comparisons before say.
use Rattle.std.proofs.Common.{◌≡◌, ◌&&◌, length, map}
use Rattle.std.specs.Vec.Iter.{into_iter_items}
use Rattle.marker_environment.specs.Valuation.{Valuation}
use Rattle.marker_parts.specs.Expression.{test_of}
use Rattle.marker_graph.specs.Contents.{IsHeld, IsKept, truth}
use Rattle.marker_answers.specs.Evaluation.{all_hold}
use Rattle.marker_answers.proofs.evaluating.join_facts.Given as goal

abbrev pub invariant-loop-fact : goal.invariant-loop-fact
invariant-loop-fact l = record {
  kept : IsKept l.fn.interner l.interner;
  held : IsHeld l.interner l.given;
  means : (v : Valuation) → (truth l.interner l.given v && all_hold (map test_of (into_iter_items l.left)) v) ≡ all_hold (map test_of l.fn.facts.items) v;
}

abbrev pub decreases-loop-fact : goal.decreases-loop-fact
decreases-loop-fact l = length (into_iter_items l.left)
