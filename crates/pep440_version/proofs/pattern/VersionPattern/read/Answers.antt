use Rattle.std.proofs.Common.{◌∙◌}
use Rattle.std.proofs.lemmas.Result.{IfOk-weaker}
use Rattle.pep440_version.proofs.Patterns.{pattern-found, pattern-missing}
use Rattle.pep440_version.proofs.pattern.VersionPattern.read.Goals as goal

pub returns-clause-found : goal.returns-clause-found
returns-clause-found c =
    let trimmed = c.as_bytes.ensures.value ∙ c.trim.ensures.trim in
    IfOk-weaker c.pattern.result _ _ (pattern-found c.args.text.now c.as_bytes.result.now trimmed) c.pattern.ensures

pub returns-clause-none : goal.returns-clause-none
returns-clause-none c =
    let trimmed = c.as_bytes.ensures.value ∙ c.trim.ensures.trim in
    IfOk-weaker c.pattern.result _ _ (pattern-missing c.args.text.now c.as_bytes.result.now trimmed) c.pattern.ensures
