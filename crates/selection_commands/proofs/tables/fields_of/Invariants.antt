use Rattle.std.proofs.Common.{◌≡◌, take}
use Rattle.selection_commands.specs.Cells.{shown_in}
use Rattle.selection_commands.proofs.tables.fields_of.Given as goal

abbrev pub invariant-loop-cell : goal.invariant-loop-cell
invariant-loop-cell l = shown_in l.fields.items ≡ shown_in (take l.cell-index l.cells)
