use Rattle.std.proofs.Common.{◌∙◌}
use Rattle.selection_commands.proofs.selector.SelectorCheckLines.check_requirement.Goals as goal

pub returns : goal.returns
returns c =
    let stays = c.in_ok-listed.ensures.stays in
    record {
      found = c.in_ok-checked.checked;
      checks = c.in_ok-checked.ensures.0;
      selects = c.in_ok-listed.ensures.selected;
      stays = record { target = stays.target; reads = stays.reads; checks = stays.checks ∙ c.in_ok-checked.ensures.1 };
    }
