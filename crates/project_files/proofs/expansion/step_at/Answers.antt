use Rattle.std.proofs.Common.{◌≡◌, Some, slice_get, nat_cmp}
use Rattle.std.specs.BTreeMap.{get}
use Rattle.std.specs.Cmp.Lexicographic.{slice_cmp}
use Rattle.project_files.specs.declared.groups.Role.TheVariants.{Item}
use Rattle.project_files.specs.Found.{entry_in, entries_in}
use Rattle.project_files.proofs.NameLaws.{entry_at}
use Rattle.project_files.proofs.FaultLaws.{if_ok}
use Rattle.project_files.proofs.ExpansionLaws.{step_here, plays_past}
use Rattle.project_files.proofs.expansion.step_at.Goals as goal

pub returns-then-place-entries : goal.returns-then-place-entries
returns-then-place-entries c =
    let es = entries_in c.args.entries.now in
    let e = entry_in c.index-entries-place.result in
    let here : slice_get es c.args.place ≡ Some e = entry_at c.args.entries.now c.args.place c.index-entries-place.result c.if-place-entries.true c.index-entries-place.is in
    if_ok c.step_of.result _ _ (λ step h. step_here es (get (slice_cmp nat_cmp) c.args.groups.now) c.args.place e step c.requires here h) c.step_of.ensures

pub returns-else-place-entries : goal.returns-else-place-entries
returns-else-place-entries c = plays_past c.args.entries.now Item c.args.place c.if-place-entries.false
