use Rattle.std.proofs.Common.{drop}
use Rattle.project_files.specs.Found.{entries_in}
use Rattle.project_findings.proofs.EntryLaws.{Checking}
use Rattle.project_findings.proofs.check.check_project.Given as goal

abbrev pub invariant-loop-index : goal.invariant-loop-index
invariant-loop-index g l = Checking g.C.CheckLines.checks_text g.C.CheckLines.finds l.fn.checker l.checker (entries_in l.file.entries.items) (entries_in (drop l.index l.file.entries.items)) l.checked.items
