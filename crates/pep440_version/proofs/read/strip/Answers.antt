use Rattle.pep440_version.proofs.Readers.{strip-found}
use Rattle.pep440_version.proofs.read.strip.Goals as goal

pub returns : goal.returns
returns c = strip-found c.args.word.now c.args.text.now c.strip_prefix.result c.strip_prefix.ensures.cases
