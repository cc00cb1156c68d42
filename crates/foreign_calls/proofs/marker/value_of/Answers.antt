use Rattle.foreign_calls.proofs.MarkerLaws.{true_in}
use Rattle.foreign_calls.proofs.marker.value_of.Goals as goal

pub returns-in-Ok-clause-value : goal.returns-in-Ok-clause-value
returns-in-Ok-clause-value c =
    true_in c.in_ok-text.ensures.same c.in-Ok.ensures.value c.in_ok-environment.ensures.given c.in_ok-names.ensures.read c.deref.ensures.value
