use Rattle.std.proofs.Common.{[]}
use Rattle.std.proofs.lemmas.List.Elements.{All-nil, All-same}
use Rattle.marker_answers.specs.Known.{IsFactOf}
use Rattle.marker_answers.proofs.facts.facts_of.Goals as goal

pub loop-index-init : goal.loop-index-init
loop-index-init c =
    c.in_ok-add_values.ensures c.args.extras.now
    (All-same (IsFactOf c.args.known.now c.args.extras.now) c.new-facts.result.items [] c.new-facts.ensures.items (All-nil (IsFactOf c.args.known.now c.args.extras.now)))

pub loop-index-preserved : goal.loop-index-preserved
loop-index-preserved c = c.in_ok-add_answer.ensures c.loop-index.invariant
