use Rattle.foreign_markers.proofs.ReadLaws.{are_said}
use Rattle.foreign_markers.proofs.read.ReadEnvironment.read.Goals as goal

pub invariant_of-result : goal.invariant_of-result
invariant_of-result c = record { said = are_said c.args.values.now c.in_ok-environment.environment c.in_ok-environment.ensures.given }
