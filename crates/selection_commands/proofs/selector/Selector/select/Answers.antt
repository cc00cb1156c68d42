use Rattle.selection_commands.specs.Markers.{requirement_at}
use Rattle.selection_commands.specs.Selecting.{TruthOf}
use Rattle.selection_commands.proofs.SelectingLaws.{entry_left_out, entry_listed, reported, selects_if}
use Rattle.selection_commands.proofs.selector.Selector.select.Goals as goal

pub returns-in_ok-entry_of-in-Listed-clause-selected : goal.returns-in_ok-entry_of-in-Listed-clause-selected
returns-in_ok-entry_of-in-Listed-clause-selected c =
    let old = c.args.self.now in
    let s = c.in-Some.stretch in
    selects_if old c.args.stretch s c.args.listed c.in-Some-listed.listed c.args.findings.now.items _ c.args.findings.now.items
    c.in-Some.is c.in-Some-listed.is
    (entry_listed (TruthOf old (requirement_at s))
    c.in_ok-choice_of.field-0 c.in-Some-listed.listed c.in_ok-entry_of-in-Listed.field-0 c.args.findings.now.items
    c.in-Listed.is c.in_ok-choice_of.ensures.chosen c.in_ok-entry_of-in-Listed.ensures)

pub returns-in-LeftOut-clause-selected : goal.returns-in-LeftOut-clause-selected
returns-in-LeftOut-clause-selected c =
    let old = c.args.self.now in
    let s = c.in-Some.stretch in
    selects_if old c.args.stretch s c.args.listed c.in-Some-listed.listed c.args.findings.now.items _ c.args.findings.now.items
    c.in-Some.is c.in-Some-listed.is
    (entry_left_out (TruthOf old (requirement_at s))
    c.in_ok-choice_of.field-0 c.in-Some-listed.listed c.args.findings.now.items c.in-LeftOut.is c.in_ok-choice_of.ensures.chosen)

pub returns-in_ok-push-in-Reported-clause-selected : goal.returns-in_ok-push-in-Reported-clause-selected
returns-in_ok-push-in-Reported-clause-selected c =
    let old = c.args.self.now in
    let s = c.in-Some.stretch in
    selects_if old c.args.stretch s c.args.listed c.in-Some-listed.listed c.args.findings.now.items _ c.push.new.self.items
    c.in-Some.is c.in-Some-listed.is
    (reported (TruthOf old (requirement_at s))
    c.in_ok-choice_of.field-0 c.in-Some-listed.listed c.in-Reported.finding c.args.findings.now.items c.push.new.self.items
    c.in-Reported.is c.in_ok-choice_of.ensures.chosen c.in_ok-push-in-Reported.ensures.items)
