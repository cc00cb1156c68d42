use Rattle.std.proofs.Common.{rules, sym}
use Rattle.project_files.specs.Found.{entry_in}
use Rattle.project_findings.proofs.EntryLaws.{entries_begin, entries_none_left, placing_more, placing_ended}
use Rattle.project_findings.proofs.places.places_of.Goals as goal

pub loop-index-preserved : goal.loop-index-preserved
loop-index-preserved c =
    let entries = c.args.entries.now in
    let entry = c.index-entries-index.result in
    placing_more (entry_in entry) c.in_ok-place.place c.loop-index.invariant (entries_begin entries c.loop-index.index entry c.loop-index-test.true (sym c.index-entries-index.is)) c.in_ok-place.ensures c.in_ok-push.ensures.items

pub returns : goal.returns
returns c = placing_ended c.loop-index.invariant (entries_none_left c.args.entries.now c.loop-index.index (search rules))
