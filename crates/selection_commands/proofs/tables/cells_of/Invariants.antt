use Rattle.std.proofs.Common.{◌≡◌, ◌∷◌, map, string_bytes, take}
use Rattle.selection_commands.specs.Truth.{cell_text}
use Rattle.selection_commands.specs.Cells.{shown_in}
use Rattle.selection_commands.proofs.tables.cells_of.Given as goal

abbrev pub invariant-loop-truth : goal.invariant-loop-truth
invariant-loop-truth l = shown_in l.cells.items
    ≡ string_bytes l.row.requirement ∷ map cell_text (take l.truth-index l.truth-items)
