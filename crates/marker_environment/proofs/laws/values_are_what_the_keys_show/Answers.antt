use Rattle.marker_environment.proofs.EnvironmentLaws.{same_values}
use Rattle.marker_environment.proofs.laws.values_are_what_the_keys_show.Goals as goal

pub returns : goal.returns
returns c v w same = same_values v w same
