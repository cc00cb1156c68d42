use Rattle.marker_environment.proofs.EqualEnvironments.{equal}
use Rattle.marker_environment.proofs.laws.same_values_make_equal_environments.Goals as goal

pub returns : goal.returns
returns c e f same = equal e f same
