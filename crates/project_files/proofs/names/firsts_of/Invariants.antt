use Rattle.std.specs.BTreeMap.{get}
use Rattle.std.specs.Cmp.Lexicographic.{slice_cmp}
use Rattle.std.specs.Ordering.{nat_cmp}
use Rattle.project_files.specs.Found.{entries_in}
use Rattle.project_files.proofs.NameLaws.{Knows}
use Rattle.project_files.proofs.names.firsts_of.Given as goal

abbrev pub invariant-loop-place : goal.invariant-loop-place
invariant-loop-place l = Knows (entries_in l.entries) l.section l.place (get (slice_cmp nat_cmp) l.firsts)
