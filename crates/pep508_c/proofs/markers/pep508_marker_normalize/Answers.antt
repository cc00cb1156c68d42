use Rattle.std.proofs.Common.{◌≡◌, rules}
use Rattle.foreign_calls.specs.declared.answer.Answer.TheVariants.{Invalid}
use Rattle.pep508_c.proofs.markers.pep508_marker_normalize.Goals as goal

pub returns-clause-invalid : goal.returns-clause-invalid
returns-clause-invalid c is =
    let answer : c.normalize_marker.result ≡ Invalid = search rules in
    c.normalize_marker.ensures.invalid answer
