use Rattle.marker_graph.specs.Contents.{truth}
use Rattle.marker_walks.specs.Keys.{DependsOnKey}
use Rattle.marker_answers.proofs.SettleLaws.{all_added}
use Rattle.marker_answers.proofs.evaluating.missing_keys.Goals as goal

pub loop-key-preserved : goal.loop-key-preserved
loop-key-preserved c =
    all_added (λ key. DependsOnKey (truth c.args.interner.now c.args.both) key × ¬ DependsOnKey (truth c.args.interner.now c.args.given) key)
    c.is_missing-missing.result c.loop-key.keys.items c.add_key.new.keys.items _ c.in_ok-add_key.ensures c.is_missing-missing.ensures c.loop-key.invariant
