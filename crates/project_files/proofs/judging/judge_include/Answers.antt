use Rattle.std.proofs.Common.{sym, ◌∙◌, nat_cmp}
use Rattle.std.specs.BTreeMap.{get}
use Rattle.std.specs.Cmp.Lexicographic.{slice_cmp}
use Rattle.project_files.proofs.FaultLaws.{include_missing, include_fine, include_endless}
use Rattle.project_files.proofs.judging.judge_include.Goals as goal

pub returns-in-Some : goal.returns-in-Some
returns-in-Some c = λ es knows ended.
    include_fine es (get (slice_cmp nat_cmp) c.args.groups.now) c.args.name.now c.args.ended.now c.in_ok-place.field-0 c.in-Some.place c.in-Some.is knows ended c.in_ok-place.ensures (sym c.has_flag.ensures ∙ c.if-has_flag.true)

pub returns-in-Some-2 : goal.returns-in-Some-2
returns-in-Some-2 c = λ es knows ended.
    include_endless es (get (slice_cmp nat_cmp) c.args.groups.now) c.args.name.now c.args.ended.now c.in_ok-place.field-0 c.in-Some.place c.in-Some.is knows ended c.in_ok-place.ensures (sym c.has_flag.ensures ∙ c.if-has_flag.false)

pub returns-in-None : goal.returns-in-None
returns-in-None c = λ es knows ended.
    include_missing es (get (slice_cmp nat_cmp) c.args.groups.now) c.args.name.now c.in_ok-place.field-0 c.in-None.is knows c.in_ok-place.ensures
