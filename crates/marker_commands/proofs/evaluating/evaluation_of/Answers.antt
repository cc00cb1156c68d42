use Rattle.marker_commands.proofs.EvaluatingLaws.{evaluated}
use Rattle.marker_commands.proofs.evaluating.evaluation_of.Goals as goal

pub returns-in-Ok-clause-evaluated : goal.returns-in-Ok-clause-evaluated
returns-in-Ok-clause-evaluated c = evaluated c.args.situation c.in-Ok.evaluation c.in_ok-tree.ensures.reads c.in-Ok.ensures.kept c.in-Ok.ensures.answer
