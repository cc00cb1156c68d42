use Rattle.std.proofs.Common.{◌≡◌, Some, slice_get, nat_cmp}
use Rattle.std.specs.BTreeMap.{get}
use Rattle.std.specs.Cmp.Lexicographic.{slice_cmp}
use Rattle.project_files.specs.Found.{entry_in, entries_in}
use Rattle.project_files.proofs.NameLaws.{entry_at, all_read, knows_more, knows_name, knows_all}
use Rattle.project_files.proofs.names.firsts_of.Goals as goal
use Rattle.project_files.proofs.names.firsts_of.Goals.{in-Some+in_ok-keep, in_default}

pub loop-place-preserved : goal.loop-place-preserved
loop-place-preserved c =
    let es = entries_in c.args.entries.now in
    let e = entry_in c.index-entries-place.result in
    let old = get (slice_cmp nat_cmp) c.loop-place.firsts in
    let here : slice_get es c.loop-place.place ≡ Some e = entry_at c.args.entries.now c.loop-place.place c.index-entries-place.result c.loop-place-test.true c.index-entries-place.is in
    elim c.match-branch-2.branch [
      | in-Some+in_ok-keep w ↦
          rw w.firsts-is (knows_name es c.args.section c.loop-place.place e w.in-Some.name old (get (slice_cmp nat_cmp) w.keep.new.firsts) here (rw w.in-Some.is at c.in_ok-name.ensures) w.in_ok-keep.ensures c.loop-place.invariant)
      | in_default w ↦
          rw w.firsts-is (knows_more es c.args.section c.loop-place.place e old here (rw w.in_default.is at c.in_ok-name.ensures) c.loop-place.invariant)
    ]

pub returns : goal.returns
returns c = knows_all (entries_in c.args.entries.now) c.args.section c.loop-place.place (get (slice_cmp nat_cmp) c.loop-place.firsts) (all_read c.args.entries.now c.loop-place.place c.loop-place-test.false c.loop-place.auto.place-end) c.loop-place.invariant
