use Rattle.formatting_commands.proofs.ReplacingLaws.{after_error, stopped}
use Rattle.formatting_commands.specs.Replacing.{IsFilled, not_synced}
use Rattle.formatting_commands.proofs.replacing.fill_and_rename.Goals as goal

pub returns-in_err-sync-clause-stopped : goal.returns-in_err-sync-clause-stopped
returns-in_err-sync-clause-stopped g c = after_error c.from_residual-in_err-sync.result (not_synced c.in_ok-write.ensures c.in_err-sync.ensures)

pub returns-clause-stopped : goal.returns-clause-stopped
returns-clause-stopped g c =
    let filled : IsFilled g.O.Outputs.tries c.args.path.now c.args.bytes.now c.args.outputs.now c.sync.new.self = record { written = c.write.new.self; writes = c.in_ok-write.ensures; syncs = c.in_ok-sync.ensures } in
    stopped g.O.Outputs.tries c.args.path.now c.args.bytes.now c.rename.result filled c.rename.ensures
