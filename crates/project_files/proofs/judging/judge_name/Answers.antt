use Rattle.std.proofs.Common.{◌∙◌, nat_cmp}
use Rattle.std.specs.BTreeMap.{get}
use Rattle.std.specs.Cmp.Lexicographic.{slice_cmp}
use Rattle.project_files.specs.Faults.{invalid}
use Rattle.project_files.proofs.FaultLaws.{judged_name}
use Rattle.project_files.proofs.judging.judge_name.Goals as goal

pub returns-in-Some : goal.returns-in-Some
returns-in-Some c = λ es section knows.
    rw c.repeat_at.ensures (judged_name es section c.args.place c.args.name.now c.in-Some.normal (get (slice_cmp nat_cmp) c.args.firsts.now) c.copied.result knows (rw c.in-Some.is at c.in_ok-normal.ensures) (c.copied.ensures ∙ c.get.ensures.value))

pub returns-in-None : goal.returns-in-None
returns-in-None c = λ es section knows. invalid (rw c.in-None.is at c.in_ok-normal.ensures)
