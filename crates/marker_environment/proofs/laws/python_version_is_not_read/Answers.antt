use Rattle.marker_environment.proofs.EnvironmentLaws.{unread}
use Rattle.marker_environment.proofs.laws.python_version_is_not_read.Goals as goal

pub returns : goal.returns
returns c old new value extras sets = unread extras sets
