use Rattle.std.proofs.Common.{◌≡◌, take}
use Rattle.selection_commands.specs.Table.{first_width}
use Rattle.selection_commands.proofs.tables.first_width.Given as goal

abbrev pub invariant-loop-row : goal.invariant-loop-row
invariant-loop-row l = l.width ≡ first_width (take l.row-index l.rows)
