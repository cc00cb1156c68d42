use Rattle.std.proofs.Common.{length}
use Rattle.pep508_text.specs.Suffix.{IsSuffix}
use Rattle.formatting_commands.proofs.FindingLaws.{Editing}
use Rattle.formatting_commands.proofs.finding.find_edits.Given as goal

abbrev pub invariant-loop-edits : goal.invariant-loop-edits
invariant-loop-edits g l = record {
  editing : Editing g.W.Rewriter.answers (length l.fn.file) l.fn.rewriter l.rewriter l.initial.rest l.rest l.edits.items;
  suffix : IsSuffix l.fn.file l.rest;
}

abbrev pub decreases-loop-edits : goal.decreases-loop-edits
decreases-loop-edits g l = length l.rest
