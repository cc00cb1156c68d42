use Rattle.std.proofs.Common.{◌≡◌, rules}
use Rattle.std.specs.Prelude.{slice_index}
use Rattle.selection_commands.proofs.TableLaws.{cells_more, cells_if}
use Rattle.selection_commands.proofs.tables.push_cells.Goals as goal

pub loop-index-preserved : goal.loop-index-preserved
loop-index-preserved c =
    let width : c.unwrap_or.result ≡ slice_index c.args.widths.now c.loop-index.index = search rules in
    cells_more c.in-Some.before.now c.loop-index.index _ c.args.widths.now c.unwrap_or.result _ _ _
    c.loop-index-test.true width c.loop-index.invariant c.in_ok-push_padded.ensures

pub returns : goal.returns
returns c =
    cells_if c.push_str.result c.args.cells.now c.in-Some.before.now c.in-Some.last.now c.loop-index.index c.args.widths.now _ _ _
    c.in-Some.ensures.cases.0 c.loop-index-test.false c.loop-index.invariant c.push_str.ensures.bytes
