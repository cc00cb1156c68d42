use Rattle.version_ranges.proofs.Merges.{last_value_is}
use Rattle.version_ranges.proofs.cuts.last_of.Goals as goal

pub returns-in-Some : goal.returns-in-Some
returns-in-Some g c = last_value_is _ _ _ _ c.in-Some.ensures.cases.0
