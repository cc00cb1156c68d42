use Rattle.std.proofs.Common.{◌≡◌, ◌++◌, drop}
use Rattle.std.specs.Prelude.{option_map}
use Rattle.toml.specs.View.{items_view}
use Rattle.project_files.specs.Found.{entries_in}
use Rattle.project_files.specs.Tables.{item_entries}
use Rattle.project_files.proofs.tables.add_items.Given as goal

abbrev pub invariant-loop-index : goal.invariant-loop-index
invariant-loop-index l =
    entries_in l.entries.items ++ item_entries l.section (option_map (λ s. s.now) l.name) l.index (items_view (drop l.index l.items.items))
    ≡ entries_in l.fn.entries.items ++ item_entries l.section (option_map (λ s. s.now) l.name) 0 (items_view l.items.items)
