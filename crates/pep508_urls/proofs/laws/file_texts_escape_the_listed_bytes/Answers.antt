use Rattle.pep508_urls.proofs.FileUrlLaws.{escapes_listed}
use Rattle.pep508_urls.proofs.laws.file_texts_escape_the_listed_bytes.Goals as goal

pub returns : goal.returns
returns c = λ b. escapes_listed b
