use Rattle.pep440_specifier.proofs.ReadBack.{reads-back}
use Rattle.pep440_specifier.proofs.laws.specifier_text_reads_back.Goals as goal

pub returns : goal.returns
returns c = reads-back
