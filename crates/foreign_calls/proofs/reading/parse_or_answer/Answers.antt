use Rattle.foreign_calls.proofs.ReadingLaws.{refused}
use Rattle.foreign_calls.proofs.reading.parse_or_answer.Goals as goal

pub returns-in-Err-clause-refused : goal.returns-in-Err-clause-refused
returns-in-Err-clause-refused c = refused _ _ _ _ c.in-Err.ensures.refused c.answer_to.ensures
