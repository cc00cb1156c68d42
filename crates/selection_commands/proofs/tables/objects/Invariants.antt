use Rattle.std.proofs.Common.{◌≡◌, string_bytes, take}
use Rattle.selection_commands.specs.Objects.{objects}
use Rattle.selection_commands.proofs.tables.objects.Given as goal

abbrev pub invariant-loop-row : goal.invariant-loop-row
invariant-loop-row l = string_bytes l.out ≡ objects l.columns (take l.row-index l.rows)
