use Rattle.std.proofs.Common.{◌≡◌, rules}
use Rattle.foreign_calls.specs.declared.answer.Answer.TheVariants.{Invalid}
use Rattle.pep508_c.proofs.requirements.pep508_requirement_parts.Goals as goal

pub returns-clause-invalid : goal.returns-clause-invalid
returns-clause-invalid c is =
    let answer : c.requirement_parts.result ≡ Invalid = search rules in
    c.requirement_parts.ensures.invalid answer
