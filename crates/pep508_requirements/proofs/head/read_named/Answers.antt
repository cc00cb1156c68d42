use Rattle.std.specs.Str.{chars}
use Rattle.pep508_urls.specs.Variables.{value_of}
use Rattle.requirement_words.specs.Fault.{FindsInHead}
use Rattle.requirement_words.specs.Head.{HasNoHead}
use Rattle.pep508_requirements.proofs.ErrorLaws.{refused_by}
use Rattle.pep508_requirements.proofs.head.read_named.Goals as goal

pub returns-in-Err-Fault-clause-refused : goal.returns-in-Err-Fault-clause-refused
returns-in-Err-Fault-clause-refused g c =
    refused_by (FindsInHead (value_of c.args.surroundings.now) c.args.text.now) (HasNoHead (chars c.args.text.now)) c.args.text.now c.in-Err-Fault.fault c.refusal_of_fault.result c.in-Err-Fault.field-0-is c.in-Err-Fault.ensures.refused c.refusal_of_fault.ensures
