use Rattle.std.proofs.Common.{List, Option, refl, ◌∙◌, subst}
use Rattle.requirement_lines.specs.Character.{Character}
use Rattle.requirement_checks.specs.declared.reading.Form.{Form}
use Rattle.selection_commands.specs.Selecting.{SelectsIf}
use Rattle.selection_commands.proofs.SelectingLaws.{said_so}
use Rattle.selection_commands.proofs.selector.SelectorCheckLines.check_line.Goals as goal

pub returns : goal.returns
returns c =
    let old = c.args.self.now in
    let found = c.in_ok-checked.checked in
    let stays = c.in_ok-listed.ensures.stays in
    record {
      found = found;
      checks = c.in_ok-checked.ensures.0;
      same_line = refl;
      selects = subst (λ (r : Option (List Character × Form)). SelectsIf old r found.listed found.findings.items c.in_ok-listed.listed c.select.new.findings.items)
          (said_so c.stretch_of.result c.in_ok-checked.ensures.0 c.stretch_of.ensures) c.in_ok-listed.ensures.selected;
      stays = record { target = stays.target; reads = stays.reads; checks = stays.checks ∙ c.in_ok-checked.ensures.1 };
    }
