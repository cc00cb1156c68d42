use Rattle.std.proofs.Common.{drop}
use Rattle.project_files.specs.Found.{entries_in}
use Rattle.project_findings.proofs.EntryLaws.{Placing}
use Rattle.project_findings.proofs.places.places_of.Given as goal

abbrev pub invariant-loop-index : goal.invariant-loop-index
invariant-loop-index l = Placing l.file (entries_in l.entries) (entries_in (drop l.index l.entries)) l.places.items
