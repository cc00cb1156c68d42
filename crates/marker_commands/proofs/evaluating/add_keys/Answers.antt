use Rattle.marker_commands.proofs.EvaluatingLaws.{three}
use Rattle.marker_commands.proofs.evaluating.add_keys.Goals as goal

pub returns : goal.returns
returns c = three _ _ _ _ _ _ _ c.in_ok-push_str.ensures.bytes c.in_ok-add_names.ensures c.in_ok-push_str-2.ensures.bytes
