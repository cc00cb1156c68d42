use Rattle.std.proofs.Common.{◌+◌}
use Rattle.marker_diagrams.specs.Id.{place_of}
use Rattle.marker_conjunctions.specs.Step.{IsOpen, IsPair, Waits}
use Rattle.marker_conjunctions.proofs.conjunctions.Conjunctions.descend.Given as goal

abbrev pub invariant-loop-choice : goal.invariant-loop-choice
invariant-loop-choice l = record {
  pair : IsPair l.nodes l.fn.first.0 l.fn.first.1 l.pair;
  unsettled : IsOpen l.self.memo.entries l.pair;
  waits : Waits l.nodes l.fn.first.0 l.fn.first.1 l.initial.pending.items l.pending.items;
}

abbrev pub decreases-loop-choice : goal.decreases-loop-choice
decreases-loop-choice l = place_of l.pair.0 + place_of l.pair.1
