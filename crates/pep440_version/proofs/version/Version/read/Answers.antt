use Rattle.std.proofs.Common.{◌∙◌}
use Rattle.std.proofs.lemmas.Result.{IfOk-weaker}
use Rattle.pep440_version.proofs.Patterns.{version-found, version-missing}
use Rattle.pep440_version.proofs.version.Version.read.Goals as goal

pub returns-clause-found : goal.returns-clause-found
returns-clause-found c =
    let trimmed = c.as_bytes.ensures.value ∙ c.trim.ensures.trim in
    IfOk-weaker c.version.result _ _ (version-found c.args.text.now c.as_bytes.result.now trimmed) c.version.ensures

pub returns-clause-none : goal.returns-clause-none
returns-clause-none c =
    let trimmed = c.as_bytes.ensures.value ∙ c.trim.ensures.trim in
    IfOk-weaker c.version.result _ _ (version-missing c.args.text.now c.as_bytes.result.now trimmed) c.version.ensures
