use Rattle.pep440_version.proofs.ReadBack.{pattern-text}
use Rattle.pep440_version.proofs.Text.{star-text}
use Rattle.pep440_version.proofs.laws.starred_text_reads_back.Goals as goal

pub returns : goal.returns
returns c = λ epoch release valid. pattern-text _ _ _ (star-text epoch release valid)
