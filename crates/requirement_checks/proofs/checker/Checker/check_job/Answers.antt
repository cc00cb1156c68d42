use Rattle.std.proofs.Common.{refl}
use Rattle.std.proofs.lemmas.Result.{on_ok_weaker}
use Rattle.requirement_checks.proofs.LineLaws.{adds_from}
use Rattle.requirement_checks.proofs.checker.Checker.check_job.Goals as goal

pub returns-clause-found : goal.returns-clause-found
returns-clause-found c =
    on_ok_weaker c.check_within-listed.result
    (adds_from _ _ _ _ _ (record { no_variables = c.new-none.ensures.empty; root = refl; start = refl }))
    c.check_within-listed.ensures
