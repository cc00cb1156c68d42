use Rattle.marker_commands.proofs.EvaluatingLaws.{one_more}
use Rattle.marker_commands.proofs.evaluating.add_names.Goals as goal

pub loop-key-preserved : goal.loop-key-preserved
loop-key-preserved c = one_more c.args.keys.now c.loop-key.key-index _ _ _ _ _ _ c.loop-key-test.true c.loop-key.invariant c.in_ok-push_str.ensures.bytes c.in_ok-push_str-2.ensures.bytes c.name.ensures
