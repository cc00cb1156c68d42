use Rattle.std.proofs.Common.{None}
use Rattle.pep508_urls.specs.Meaning.{is_path}
use Rattle.pep508_urls.proofs.VerbatimLaws.{none_made_of, size_told_of}
use Rattle.pep508_urls.proofs.verbatim_url.reading.VerbatimUrlUnnamedRequirementUrl.parse_absolute_path.Goals as goal

pub returns-clause-fault : goal.returns-clause-fault
returns-clause-fault c = none_made_of None (is_path c.args.path.now) c.from_absolute_path.result c.from_absolute_path.ensures.fault

pub returns-clause-size : goal.returns-clause-size
returns-clause-size c = size_told_of None (is_path c.args.path.now) c.from_absolute_path.result c.from_absolute_path.ensures.fault
