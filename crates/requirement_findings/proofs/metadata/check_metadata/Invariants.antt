use Rattle.std.proofs.Common.{drop}
use Rattle.requirement_findings.proofs.MetadataLaws.{CheckingFields}
use Rattle.requirement_findings.proofs.metadata.check_metadata.Given as goal

abbrev pub invariant-loop-index : goal.invariant-loop-index
invariant-loop-index g l = CheckingFields g.C.CheckLines.checks_text g.C.CheckLines.finds l.fn.checker l.checker l.headers.fields.items (drop l.index l.headers.fields.items) l.fields.items
