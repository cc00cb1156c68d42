use Rattle.std.proofs.Common.{rules}
use Rattle.std.proofs.lemmas.Result.{IfOk-weaker}
use Rattle.formatting_commands.proofs.SameLaws.{parses_as}
use Rattle.formatting_commands.proofs.normal.parses_as.Goals as goal

pub returns-in-Some-clause-same : goal.returns-in-Some-clause-same
returns-in-Some-clause-same c =
    IfOk-weaker c.is_same.result _ _
    (parses_as {d = c.parse_whole.new.interner} c.args.requirement.now c.in-Some.again c.requires (search rules) (search rules))
    c.is_same.ensures
