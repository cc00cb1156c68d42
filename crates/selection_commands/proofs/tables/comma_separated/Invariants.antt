use Rattle.std.proofs.Common.{Some, take}
use Rattle.selection_commands.specs.Cells.{texts_in}
use Rattle.selection_commands.specs.Table.{HasRecords, comma_separated}
use Rattle.selection_commands.proofs.tables.comma_separated.Given as goal

abbrev pub invariant-loop-row : goal.invariant-loop-row
invariant-loop-row l =
    HasRecords (λ out. Some out.items) l.writer (comma_separated (texts_in l.titles) (take l.row-index l.rows))
