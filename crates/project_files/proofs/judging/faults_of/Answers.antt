use Rattle.std.proofs.Common.{◌≡◌, ◌+◌, Some, slice_get, sym, subst}
use Rattle.std.proofs.lemmas.List.{length-map}
use Rattle.std.specs.Prelude.{length}
use Rattle.project_files.specs.Found.{entry_in, entries_in}
use Rattle.project_files.specs.Links.{Links, EndedIn}
use Rattle.project_files.specs.Faults.{Judged, none, more}
use Rattle.project_files.proofs.NameLaws.{entry_at}
use Rattle.project_files.proofs.EndLaws.{below_all, ended_in}
use Rattle.project_files.proofs.judging.faults_of.Goals as goal

pub ended_of-requires : goal.ended_of-requires
ended_of-requires c =
    below_all (entries_in c.args.entries.now) c.deref.result.now (length c.args.entries.now) (length-map c.args.entries.now entry_in)
    (subst (Links (entries_in c.args.entries.now)) (sym c.deref.ensures.value) c.in_ok-links.ensures)

pub loop-place-init : goal.loop-place-init
loop-place-init c = subst (Judged (entries_in c.args.entries.now) 0) (sym c.new-faults.ensures.items) none

pub loop-place-preserved : goal.loop-place-preserved
loop-place-preserved c =
    let es = entries_in c.args.entries.now in
    let i = c.loop-place.place in
    let e = entry_in c.index-entries-place.result in
    let here : slice_get es i ≡ Some e = entry_at c.args.entries.now i c.index-entries-place.result c.loop-place-test.true c.index-entries-place.is in
    let links : Links es c.deref.result.now = subst (Links es) (sym c.deref.ensures.value) c.in_ok-links.ensures in
    let flags : EndedIn es c.in_ok-ended.ended.items = ended_in es c.deref.result.now (length c.args.entries.now) c.in_ok-ended.ended.items (length-map c.args.entries.now entry_in) links c.in_ok-ended.ensures in
    subst (Judged es (i + 1)) (sym c.in_ok-add_fault.ensures)
    (more i c.loop-place.faults.items e c.in_ok-fault.fault c.loop-place.invariant here
    (c.in_ok-fault.ensures es c.in_ok-groups.ensures c.in_ok-extras.ensures (subst (EndedIn es) (sym c.deref-in-loop-place.ensures.value) flags)))
