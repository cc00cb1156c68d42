use Rattle.std.proofs.Common.{sym}
use Rattle.selection_commands.specs.Reached.{AreReached}
use Rattle.selection_commands.proofs.TruthLaws.{if_some, tells_in}
use Rattle.selection_commands.proofs.truth.truth_in.Goals as goal

pub returns : goal.returns
returns c =
    tells_in c.args.target.now c.args.interner.now c.args.marker c.table-table.result.now c.id.result c.settled-id.result c.in-Some.ids.keys c.contains-may_hold.result c.contains-may_fail.result c.truth_of.result
    c.table-table.ensures.table c.id.ensures c.table-table.ensures.rules c.settled-id.ensures
    (if_some c.in_ok-ids.field-0 c.in-Some.ids c.in-Some.is (λ ids. AreReached c.args.target.now c.table-table.result.now c.settled-id.result ids.keys) c.in_ok-ids.ensures)
    (sym c.contains-may_hold.ensures) (sym c.contains-may_fail.ensures) c.truth_of.ensures
