use Rattle.std.proofs.Common.{◌≡◌, string_bytes, take}
use Rattle.std.specs.List.{flat_map}
use Rattle.selection_commands.specs.Cells.{cells_in, texts_in}
use Rattle.selection_commands.specs.Table.{full_line}
use Rattle.selection_commands.proofs.tables.aligned.Given as goal

abbrev pub invariant-loop-row : goal.invariant-loop-row
invariant-loop-row l = string_bytes l.out
    ≡ flat_map (λ cells. full_line cells l.widths.items)
    (cells_in (texts_in l.titles) (take l.row-index l.rows))
