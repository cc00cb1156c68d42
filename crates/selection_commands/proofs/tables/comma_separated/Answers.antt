use Rattle.std.proofs.Common.{List, ℕ, Some, take, ap, ◌∙◌, subst}
use Rattle.selection_commands.specs.Cells.{shown_in, texts_in}
use Rattle.selection_commands.specs.Table.{HasRecords, comma_separated}
use Rattle.selection_commands.proofs.TableLaws.{records_more}
use Rattle.selection_commands.proofs.tables.comma_separated.Goals as goal

pub loop-row-preserved : goal.loop-row-preserved
loop-row-preserved c =
    let more = records_more (texts_in c.args.titles.now) c.args.rows.now c.loop-row.row-index c.row-item.result c.deref-in-loop-row.result.now
    c.loop-row-test.true c.row-item.is (ap shown_in c.deref-in-loop-row.ensures.value ∙ c.in_ok-cells_of.ensures) in
    subst (λ (text : List ℕ). HasRecords (λ out. Some out.items) c.write_record-in-loop-row.new.writer text) more
    (c.in_ok-write_record-2.ensures (comma_separated (texts_in c.args.titles.now) (take c.loop-row.row-index c.args.rows.now)) c.loop-row.invariant)
