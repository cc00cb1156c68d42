use Rattle.std.specs.Str.{chars}
use Rattle.requirement_words.specs.Extras.{HasNoExtras}
use Rattle.requirement_words.specs.Fault.{FindsInExtras}
use Rattle.pep508_requirements.proofs.ErrorLaws.{refused_by}
use Rattle.pep508_requirements.proofs.extras.Extras.parse.Goals as goal

pub returns-in-Err-Fault-clause-refused : goal.returns-in-Err-Fault-clause-refused
returns-in-Err-Fault-clause-refused g c =
    refused_by (FindsInExtras (chars c.args.text.now)) (HasNoExtras (chars c.args.text.now)) c.args.text.now c.in-Err-Fault.fault c.refusal_of_fault.result c.in-Err-Fault.field-0-is c.in-Err-Fault.ensures.refused c.refusal_of_fault.ensures
