use Rattle.std.proofs.Common.{◌≡◌, ◌++◌}
use Rattle.toml.specs.View.{members_view}
use Rattle.project_files.specs.Found.{entries_in}
use Rattle.project_files.specs.Tables.{member_entries}
use Rattle.project_files.proofs.tables.add_members.Given as goal

abbrev pub invariant-loop-key : goal.invariant-loop-key
invariant-loop-key l =
    entries_in l.entries.items ++ member_entries l.section (members_view l.key-iterator)
    ≡ entries_in l.fn.entries.items ++ member_entries l.section (members_view l.members.entries)
