use Rattle.std.proofs.Common.{◌≡◌, rules}
use Rattle.foreign_calls.specs.declared.answer.Answer.TheVariants.{Invalid}
use Rattle.pep508_c.proofs.handles.pep508_marker_parse.Goals as goal

pub returns-clause-invalid : goal.returns-clause-invalid
returns-clause-invalid c is =
    let answer : c.parse.result ≡ Invalid = search rules in
    c.parse.ensures.invalid answer
