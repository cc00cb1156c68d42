use Rattle.foreign_markers.proofs.NumberLaws.{is_set_to}
use Rattle.foreign_markers.proofs.markers.Markers.set_environment.Goals as goal

pub returns-clause-set : goal.returns-clause-set
returns-clause-set c = is_set_to (record { environment = c.in_ok-environment.environment; extras = c.in_ok-extras.extras }) c.in_ok-environment.ensures.given c.in_ok-extras.ensures.read
