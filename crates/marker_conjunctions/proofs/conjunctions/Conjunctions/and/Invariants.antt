use Rattle.std.proofs.Common.{◌+◌}
use Rattle.marker_diagrams.specs.Id.{place_of}
use Rattle.marker_conjunctions.specs.Contents.{contents}
use Rattle.marker_conjunctions.specs.Count.{Spends}
use Rattle.marker_conjunctions.specs.Step.{ArePairs, IsOpen, IsPair, StaysWellKept}
use Rattle.marker_conjunctions.proofs.StepLaws.{open_pairs}
use Rattle.marker_conjunctions.proofs.conjunctions.Conjunctions.and.Given as goal

abbrev pub invariant-loop-pending : goal.invariant-loop-pending
invariant-loop-pending l = record {
  kept : StaysWellKept (contents l.initial.nodes l.initial.self) (contents l.nodes l.self);
  spent : Spends (contents l.initial.nodes l.initial.self) (contents l.nodes l.self) (place_of l.a + place_of l.b + 1) l.a l.b;
  pairs : ArePairs l.initial.nodes l.a l.b l.pending.items;
  pair : IsPair l.initial.nodes l.a l.b l.next;
  unsettled : IsOpen l.self.memo.entries l.next;
}

abbrev pub decreases-loop-pending : goal.decreases-loop-pending
decreases-loop-pending l = open_pairs l.initial.nodes l.self.memo.entries
