use Rattle.std.proofs.Common.{refl}
use Rattle.foreign_calls.proofs.ReadingLaws.{read_in, refused_in}
use Rattle.foreign_calls.proofs.reading.parse.Goals as goal

pub returns-clause-read : goal.returns-clause-read
returns-clause-read c = read_in _ _ _ _ c.parse.result (record { variables = c.new-vars.ensures.empty; project = refl; working = c.folder_or_none.ensures }) c.parse.ensures.means

pub returns-clause-refused : goal.returns-clause-refused
returns-clause-refused c = refused_in _ _ _ c.parse.result (record { variables = c.new-vars.ensures.empty; project = refl; working = c.folder_or_none.ensures }) c.parse.ensures.refused
