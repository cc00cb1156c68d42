use Rattle.requirement_words.proofs.HeadText.{head_reads}
use Rattle.requirement_words.proofs.laws.head_text_reads_back.Goals as goal

pub returns : goal.returns
returns c = head_reads
