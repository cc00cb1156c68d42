use Rattle.std.proofs.Common.{◌≤◌, ◌<◌, ◌+◌, ◌*◌, Bool}
use Rattle.marker_diagrams.specs.Id.{place_of}
use Rattle.marker_nodes.specs.Pairs.{pairs_left}
use Rattle.marker_walks.specs.Disjoint.{AreDisjoint, IsKept, HasBoth, TellsDisjoint}
use Rattle.marker_walks.proofs.Disjoints.{WalksBut}
use Rattle.marker_walks.proofs.disjoint.+apart.Given as goal

abbrev pub decreases-are_apart : goal.decreases-are_apart
decreases-are_apart g l = 3 * (place_of l.a + place_of l.b) + 2

abbrev pub decreases-all_but_last : goal.decreases-all_but_last
decreases-all_but_last g l = 3 * (place_of l.a + place_of l.b)

abbrev pub invariant-are_apart-loop-left : goal.invariant-are_apart-loop-left
invariant-are_apart-loop-left g l = record {
  memory : IsKept l.nodes l.fn.memory.looks l.memory.looks l.memory.apart;
  ids : HasBoth l.nodes l.pair.0 l.pair.1;
  nodes : (0 < place_of l.pair.0) × (0 < place_of l.pair.1);
  below : place_of l.pair.0 + place_of l.pair.1 ≤ place_of l.fn.a + place_of l.fn.b;
  rest : (answer : Bool) → TellsDisjoint l.nodes l.pair.0 l.pair.1 answer → TellsDisjoint l.nodes l.fn.a l.fn.b answer;
}

abbrev pub decreases-are_apart-loop-left : goal.decreases-are_apart-loop-left
decreases-are_apart-loop-left g l = place_of l.pair.0 + place_of l.pair.1

abbrev pub invariant-all_but_last-loop-left : goal.invariant-all_but_last-loop-left
invariant-all_but_last-loop-left g l = record {
  memory : IsKept l.nodes l.fn.memory.looks l.memory.looks l.memory.apart;
  walk : WalksBut l.nodes l.a l.b l.last (pairs_left l.left-iterator);
}

abbrev pub decreases-remember_way : goal.decreases-remember_way
decreases-remember_way g l = 3 * (place_of l.a + place_of l.b) + 1

abbrev pub invariant-remember_way-loop-left : goal.invariant-remember_way-loop-left
invariant-remember_way-loop-left g l = record {
  memory : IsKept l.nodes l.fn.memory.looks l.memory.looks l.memory.apart;
  ids : HasBoth l.nodes l.pair.0 l.pair.1;
  nodes : (0 < place_of l.pair.0) × (0 < place_of l.pair.1);
  below : place_of l.pair.0 + place_of l.pair.1 ≤ place_of l.fn.a + place_of l.fn.b;
  disjoint : AreDisjoint l.nodes l.pair.0 l.pair.1;
}

abbrev pub decreases-remember_way-loop-left : goal.decreases-remember_way-loop-left
decreases-remember_way-loop-left g l = place_of l.pair.0 + place_of l.pair.1
