use Rattle.std.proofs.Common.{◌≤◌, vec_len}
use Rattle.project_files.specs.Found.{entries_in}
use Rattle.project_files.proofs.ExpansionLaws.{Walks}
use Rattle.project_files.proofs.expansion.expand_list.Given as goal

abbrev pub invariant-loop-step : goal.invariant-loop-step
invariant-loop-step l = record {
  walks : Walks (entries_in l.entries) l.start l.walk.found.items l.walk.places.items;
  within : vec_len l.walk.found ≤ 100000;
}
