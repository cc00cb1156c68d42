-- What is added holds where the values are known.
use Rattle.marker_answers.specs.Known.{AreFacts}
use Rattle.marker_answers.proofs.facts.facts_of.Given as goal

abbrev pub invariant-loop-index : goal.invariant-loop-index
invariant-loop-index l = AreFacts l.known l.extras l.facts.items
