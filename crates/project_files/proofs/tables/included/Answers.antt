use Rattle.std.proofs.Common.{sym, ◌∙◌}
use Rattle.std.specs.Prelude.{Some}
use Rattle.toml.specs.View.{view}
use Rattle.project_files.proofs.TableLaws.{included_from, not_included}
use Rattle.project_files.proofs.tables.included.Goals as goal

pub returns-then-len-ne1 : goal.returns-then-len-ne1
returns-then-len-ne1 c = not_included c.args.table.now.entries c.len.result c.len.ensures.len c.if-len-ne1.true

pub returns-in-Some : goal.returns-in-Some
returns-in-Some c =
    c.as_str.ensures
    ∙ included_from c.args.table.now.entries c.len.result (Some (view c.in-Some.value.now)) c.len.ensures.len c.if-len-ne1.false (sym (rw c.in-Some.is at c.value_at.ensures))
