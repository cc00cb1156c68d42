use Rattle.std.specs.Str.{chars}
use Rattle.requirement_words.specs.Fault.{FindsInUnnamed}
use Rattle.requirement_words.specs.Unnamed.{HasNoUnnamedHead}
use Rattle.pep508_requirements.proofs.ErrorLaws.{refused_by}
use Rattle.pep508_requirements.proofs.url.read_unnamed.Goals as goal

pub returns-in-Err-Fault-clause-refused : goal.returns-in-Err-Fault-clause-refused
returns-in-Err-Fault-clause-refused g c =
    refused_by (FindsInUnnamed c.args.text.now) (HasNoUnnamedHead (chars c.args.text.now)) c.args.text.now c.in-Err-Fault.fault c.refusal_of_fault.result c.in-Err-Fault.field-0-is c.in-Err-Fault.ensures.refused c.refusal_of_fault.ensures
