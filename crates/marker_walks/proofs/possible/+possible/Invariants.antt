use Rattle.std.proofs.Common.{◌+◌, ◌*◌, ◌≤◌, Bool}
use Rattle.version_ranges.specs.Parts.{parts_left}
use Rattle.marker_diagrams.specs.Id.{place_of}
use Rattle.marker_walks.specs.Possible.{listed_versions}
use Rattle.marker_walks.specs.Search.{Answers, IsKept, IsOut}
use Rattle.marker_walks.proofs.PossibleLaws.{enters, always, Walks}
use Rattle.marker_walks.proofs.possible.+possible.Given as goal

abbrev pub decreases-possible : goal.decreases-possible
decreases-possible l = 5 * place_of l.id + 4

abbrev pub decreases-possible_by_nodes : goal.decreases-possible_by_nodes
decreases-possible_by_nodes l = 5 * place_of l.id + 3

abbrev pub decreases-remember_way : goal.decreases-remember_way
decreases-remember_way l = 5 * place_of l.id + 2

abbrev pub invariant-remember_way-loop-variable : goal.invariant-remember_way-loop-variable
invariant-remember_way-loop-variable l = record {
  memory : IsKept l.extras l.versions l.nodes l.fn.looks l.fn.out l.looks l.out;
  below : place_of l.at ≤ place_of l.fn.id;
  impossible : IsOut l.extras l.versions l.nodes l.at;
}

abbrev pub decreases-remember_way-loop-variable : goal.decreases-remember_way-loop-variable
decreases-remember_way-loop-variable l = place_of l.at

abbrev pub decreases-possible_at_version : goal.decreases-possible_at_version
decreases-possible_at_version l = 5 * place_of l.id + 1

abbrev pub decreases-possible_at_text : goal.decreases-possible_at_text
decreases-possible_at_text l = 5 * place_of l.id + 1

abbrev pub decreases-rest_at_truth : goal.decreases-rest_at_truth
decreases-rest_at_truth l = 5 * place_of l.id + 1

abbrev pub invariant-possible_by_nodes-loop-variable : goal.invariant-possible_by_nodes-loop-variable
invariant-possible_by_nodes-loop-variable l = record {
  memory : IsKept l.extras l.versions l.nodes l.fn.looks l.fn.out l.looks l.out;
  below : place_of l.at ≤ place_of l.fn.id;
  rest : (answer : Bool) → Answers l.extras l.versions l.nodes l.at answer → Answers l.extras l.versions l.nodes l.fn.id answer;
}

abbrev pub decreases-possible_by_nodes-loop-variable : goal.decreases-possible_by_nodes-loop-variable
decreases-possible_by_nodes-loop-variable l = place_of l.at

abbrev pub invariant-possible_at_version-loop-piece : goal.invariant-possible_at_version-loop-piece
invariant-possible_at_version-loop-piece l = record {
  memory : IsKept l.extras l.versions l.nodes l.fn.looks l.fn.out l.looks l.out;
  walk : Walks l.extras (listed_versions l.versions) l.nodes l.id (enters l.variable (listed_versions l.versions)) (parts_left l.piece-iterator);
}

abbrev pub invariant-possible_at_text-loop-piece : goal.invariant-possible_at_text-loop-piece
invariant-possible_at_text-loop-piece l = record {
  memory : IsKept l.extras l.versions l.nodes l.fn.looks l.fn.out l.looks l.out;
  walk : Walks l.extras (listed_versions l.versions) l.nodes l.id always (parts_left l.piece-iterator);
}
