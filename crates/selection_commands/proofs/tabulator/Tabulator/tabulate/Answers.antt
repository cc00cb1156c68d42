use Rattle.std.proofs.Common.{refl}
use Rattle.selection_commands.specs.Markers.{requirement_at}
use Rattle.selection_commands.specs.Tabulating.{IsRow, TruthsOf}
use Rattle.selection_commands.proofs.TabulatingLaws.{finding_added, row_added, tabulates_if}
use Rattle.selection_commands.proofs.tabulator.Tabulator.tabulate.Goals as goal

pub returns-in_default-2-clause-tabulated : goal.returns-in_default-2-clause-tabulated
returns-in_default-2-clause-tabulated c =
    let old = c.args.self.now in
    let s = c.in-Some.stretch in
    tabulates_if old c.args.stretch s c.args.listed c.in-Some-listed.listed c.args.findings.now.items _ _
    c.in-Some.is c.in-Some-listed.is
    (finding_added (IsRow (TruthsOf old (requirement_at s)) c.in-Some-listed.listed)
    old.rows.items c.truths_of.new.self.rows.items c.in_ok-too_complex.field-0 c.args.findings.now.items c.push.new.self.items
    c.in_ok-too_complex.ensures c.in_ok-truths.ensures.rows c.in_ok-push.ensures.items)

pub returns-clause-tabulated : goal.returns-clause-tabulated
returns-clause-tabulated c =
    let old = c.args.self.now in
    let s = c.in-Some.stretch in
    let truths = rw c.in-Some-2.is at c.in_ok-truths.ensures.truths in
    tabulates_if old c.args.stretch s c.args.listed c.in-Some-listed.listed c.args.findings.now.items _ _
    c.in-Some.is c.in-Some-listed.is
    (row_added (IsRow (TruthsOf old (requirement_at s)) c.in-Some-listed.listed)
    _ old.rows.items c.truths_of.new.self.rows.items c.push-2.new.self.items c.args.findings.now.items
    (record { truths = truths; name = refl; marker = refl }) c.in_ok-truths.ensures.rows c.in_ok-push-2.ensures.items)
