use Rattle.pep508_urls.proofs.VerbatimLaws.{none_made_of_url, size_told_of_url}
use Rattle.pep508_urls.proofs.verbatim_url.reading.VerbatimUrlUnnamedRequirementUrl.parse_unnamed_url.Goals as goal

pub returns-clause-fault : goal.returns-clause-fault
returns-clause-fault c = none_made_of_url c.args.text.now c.parse_url.result c.parse_url.ensures.fault

pub returns-clause-size : goal.returns-clause-size
returns-clause-size c = size_told_of_url c.args.text.now c.parse_url.result c.parse_url.ensures.fault
