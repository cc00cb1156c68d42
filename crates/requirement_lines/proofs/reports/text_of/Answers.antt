use Rattle.std.proofs.Common.{arith}
use Rattle.requirement_lines.proofs.ReportLaws.{text_more}
use Rattle.requirement_lines.proofs.reports.text_of.Goals as goal

pub loop-index-preserved : goal.loop-index-preserved
loop-index-preserved c = text_more c.args.pieces.now c.loop-index.index _ _ _ (omega arith) c.loop-index.invariant c.bytes.ensures c.in_ok-push_str.ensures.bytes
