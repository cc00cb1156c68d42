use Rattle.foreign_calls.proofs.MarkerLaws.{given}
use Rattle.foreign_calls.proofs.environment.read_environment.Goals as goal

pub returns-in-Ok-clause-given : goal.returns-in-Ok-clause-given
returns-in-Ok-clause-given c = given c.in_ok-builder.ensures.same c.in-Ok.ensures.texts c.in-Ok.ensures.versions
