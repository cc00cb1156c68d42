use Rattle.std.proofs.Common.{refl}
use Rattle.foreign_markers.proofs.questions.read_again.Goals as goal

pub returns-then-has-clause-given : goal.returns-then-has-clause-given
returns-then-has-clause-given c = record { read = c.in-Some.read; is_there = refl; given = c.has.ensures c.if-has.true }

pub returns-clause-given : goal.returns-clause-given
returns-clause-given c = record { read = c.in_ok-read.field-0; is_there = refl; given = ∣ c.in_ok-read.ensures.given ∣₁ }
