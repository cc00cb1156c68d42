use Rattle.std.proofs.Common.{◌≡◌, ◌<◌, List, length, get_or, subst, rules}
use Rattle.project_files.specs.declared.entry.ProjectEntry.{ProjectEntry}
use Rattle.project_files.specs.Found.{entry_in, entries_in}
use Rattle.project_findings.specs.Places.{HoldEach}
use Rattle.project_findings.proofs.EntryLaws.{checking_more, checking_ended, entries_begin, entries_none_left}
use Rattle.project_findings.proofs.check.check_project.Goals as goal

pub loop-index-preserved : goal.loop-index-preserved
loop-index-preserved g c =
    let entries = c.in_ok-file.file.entries.items in
    let entry = c.index.result.now in
    let lt : c.loop-index.index < length entries = search rules in
    let here : get_or entries c.loop-index.index entry ≡ entry = search rules in
    checking_more g.C.CheckLines.checks_text g.C.CheckLines.finds (entry_in entry) c.in_ok-text.text c.loop-index.invariant (entries_begin entries c.loop-index.index entry lt here) c.in_ok-text.ensures c.in_ok-push.ensures.items

pub returns-clause-checked : goal.returns-clause-checked
returns-clause-checked g c =
    let held : HoldEach c.args.text.now (entries_in c.as_slice.result.now) c.in_ok-places.places.items = c.in_ok-places.ensures in
    record {
      entries = c.in_ok-file.ensures.entries;
      faults = c.in_ok-file.ensures.faults;
      each = checking_ended g.C.CheckLines.checks_text g.C.CheckLines.finds c.loop-index.invariant (entries_none_left c.in_ok-file.file.entries.items c.loop-index.index (search rules));
      places = subst (λ (es : List ProjectEntry). HoldEach c.args.text.now (entries_in es) c.in_ok-places.places.items) c.as_slice.ensures.value held;
    }
