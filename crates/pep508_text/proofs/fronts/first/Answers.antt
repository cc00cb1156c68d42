use Rattle.std.proofs.Common.{rules}
use Rattle.std.proofs.lemmas.Str.{chars_past_char}
use Rattle.pep508_text.proofs.fronts.first.Goals as goal

pub returns-clause-characters : goal.returns-clause-characters
returns-clause-characters c = chars_past_char _ _ _ c.utf8.text (search rules)
