use Rattle.std.proofs.Common.{◌≡◌, ◌++◌, string_bytes, take}
use Rattle.selection_commands.specs.Cells.{shown_in}
use Rattle.selection_commands.proofs.TableLaws.{padded_all}
use Rattle.selection_commands.proofs.tables.push_cells.Given as goal

abbrev pub invariant-loop-index : goal.invariant-loop-index
invariant-loop-index l =
    string_bytes l.out ≡ string_bytes l.initial.out ++ padded_all (shown_in (take l.index l.before)) l.widths
