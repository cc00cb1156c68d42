use Rattle.std.proofs.Common.{ap}
use Rattle.std.proofs.lemmas.Result.{IfOk-weaker}
use Rattle.pep440_version.specs.Parts.{Parts}
use Rattle.pep440_rs.proofs.Trimmed.{trimmed-is}
use Rattle.pep440_rs.proofs.intervals.trimmed_version.Goals as goal

pub returns-clause-trimmed : goal.returns-clause-trimmed
returns-clause-trimmed c = IfOk-weaker c.new_trimmed.result _ _ (λ v e. trimmed-is _ v (ap (λ (w : Parts). w.release) e)) c.new_trimmed.ensures.value
