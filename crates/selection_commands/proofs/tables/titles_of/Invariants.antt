use Rattle.std.proofs.Common.{◌≡◌, map, take}
use Rattle.selection_commands.specs.Cells.{texts_in, title_of}
use Rattle.selection_commands.proofs.tables.titles_of.Given as goal

abbrev pub invariant-loop-column : goal.invariant-loop-column
invariant-loop-column l = texts_in l.titles.items ≡ map title_of (take l.column-index l.columns)
