use Rattle.std.proofs.Common.{◌∙◌, nat_cmp}
use Rattle.std.specs.BTreeMap.{get}
use Rattle.std.specs.Cmp.Lexicographic.{slice_cmp}
use Rattle.project_files.proofs.NameLaws.{finds}
use Rattle.project_files.proofs.names.place_of.Goals as goal

pub returns-in-Some : goal.returns-in-Some
returns-in-Some c =
    finds c.copied.result (get (slice_cmp nat_cmp) c.args.firsts.now) c.args.name.now c.in-Some.name (rw c.in-Some.is at c.in_ok-name.ensures) (c.copied.ensures ∙ c.get.ensures.value)
