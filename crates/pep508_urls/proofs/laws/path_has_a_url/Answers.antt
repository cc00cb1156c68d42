use Rattle.pep508_urls.proofs.FileUrlLaws.{path_has_url}
use Rattle.pep508_urls.proofs.laws.path_has_a_url.Goals as goal

pub returns : goal.returns
returns c = λ base path whole normal a n. path_has_url base path whole normal a n
