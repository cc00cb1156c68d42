use Rattle.std.proofs.Common.{◌≡◌, ◌++◌}
use Rattle.std.specs.Vec.Iter.{into_iter_items}
use Rattle.project_findings.specs.Names.{names_of}
use Rattle.project_findings.proofs.placing.place_findings.Given as goal

abbrev pub invariant-loop-finding : goal.invariant-loop-finding
invariant-loop-finding l = names_of l.placed.items ++ names_of (into_iter_items l.finding-iterator) ≡ names_of l.fn.findings.items
