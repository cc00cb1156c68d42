use Rattle.std.proofs.Common.{refl, ◌∙◌}
use Rattle.selection_commands.proofs.tabulator.TabulatorCheckLines.check_requirement.Goals as goal

pub returns : goal.returns
returns c =
    let stays = c.in_ok-tabulate.ensures.stays in
    record {
      found = c.in_ok-checked.checked;
      checks = c.in_ok-checked.ensures.0;
      no_list = refl;
      tabulates = c.in_ok-tabulate.ensures.tabulated;
      stays = record { targets = stays.targets; reads = stays.reads; checks = stays.checks ∙ c.in_ok-checked.ensures.1 };
    }
