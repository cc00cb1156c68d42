use Rattle.std.proofs.Common.{rules}
use Rattle.pep508_errors.proofs.Columns.{counted_more, counted_below}
use Rattle.pep508_errors.proofs.underline.columns_before.Goals as goal

pub loop-c-preserved : goal.loop-c-preserved
loop-c-preserved c = (
  counted_more c.loop-c.rest.now c.in-Some.after.now _ c.loop-c.columns c.loop-c.left _ _ _ c.loop-c.invariant.0 c.in-Some.ensures.characters c.len_utf8-size.ensures.value (search rules) c.column_width-columns.ensures.value,
  counted_below c.loop-c.rest.now c.in-Some.after.now c.loop-c.columns _ _ _ c.loop-c.invariant.1 c.in-Some.ensures.bytes c.column_width-columns.ensures.value,
  search rules,
)
