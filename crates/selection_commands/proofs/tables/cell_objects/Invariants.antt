use Rattle.std.proofs.Common.{◌≡◌, length, map, take}
use Rattle.std.specs.List.{zip}
use Rattle.serde_json.specs.View.{view}
use Rattle.selection_commands.specs.Objects.{cell_object}
use Rattle.selection_commands.proofs.tables.cell_objects.Given as goal

abbrev pub invariant-loop-column : goal.invariant-loop-column
invariant-loop-column l = map view l.cells.items
    ≡ map (λ cell. cell_object cell.0 cell.1) (take (length l.yielded) (zip l.columns l.truths))
