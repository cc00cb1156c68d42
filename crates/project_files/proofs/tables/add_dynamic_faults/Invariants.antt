use Rattle.std.proofs.Common.{◌≡◌, ◌++◌, drop}
use Rattle.toml.specs.View.{items_view, table_view}
use Rattle.project_files.specs.Found.{entries_in}
use Rattle.project_files.specs.Tables.{dynamic_faults}
use Rattle.project_files.proofs.tables.add_dynamic_faults.Given as goal

abbrev pub invariant-loop-index : goal.invariant-loop-index
invariant-loop-index l =
    entries_in l.entries.items ++ dynamic_faults (table_view l.project) l.index (items_view (drop l.index l.items.items))
    ≡ entries_in l.fn.entries.items ++ dynamic_faults (table_view l.project) 0 (items_view l.items.items)
