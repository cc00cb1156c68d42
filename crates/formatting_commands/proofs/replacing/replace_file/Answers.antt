use Rattle.formatting_commands.proofs.ReplacingLaws.{left}
use Rattle.formatting_commands.proofs.replacing.replace_file.Goals as goal

pub returns-then-is_err-clause-left : goal.returns-then-is_err-clause-left
returns-then-is_err-clause-left g c =
    left g.O.Outputs.tries c.args.path.now c.args.bytes.now c.fill_and_rename-filled.result c.in_ok-create_beside.ensures c.fill_and_rename-filled.ensures.stopped c.remove-removed.ensures
