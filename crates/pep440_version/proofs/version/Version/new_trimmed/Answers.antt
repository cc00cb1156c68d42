use Rattle.std.proofs.Common.{ap, ◌∙◌}
use Rattle.std.proofs.lemmas.Result.{IfOk-weaker}
use Rattle.pep440_version.specs.Parts.{release_only}
use Rattle.pep440_version.proofs.Trimmed.{trimmed-version}
use Rattle.pep440_version.proofs.version.Version.new_trimmed.Goals as goal

pub returns-clause-same : goal.returns-clause-same
returns-clause-same c =
    IfOk-weaker c.new.result _ _ (λ version same. trimmed-version version (release_only c.args.release.now) (same ∙ ap release_only c.trimmed.ensures.numbers)) c.new.ensures.value
