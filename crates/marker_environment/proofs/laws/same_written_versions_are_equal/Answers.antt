use Rattle.marker_environment.proofs.EqualEnvironments.{same_written}
use Rattle.marker_environment.proofs.laws.same_written_versions_are_equal.Goals as goal

pub returns : goal.returns
returns c v w same = same_written v w same
