use Rattle.pep508_urls.proofs.FileUrlLaws.{file_text_reads}
use Rattle.pep508_urls.proofs.laws.file_text_is_read.Goals as goal

pub returns : goal.returns
returns c = λ path. file_text_reads path
