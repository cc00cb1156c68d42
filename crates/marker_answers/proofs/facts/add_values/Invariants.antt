-- What is added holds where the values are known.
use Rattle.std.proofs.Common.{ℕ, List}
use Rattle.marker_answers.specs.Known.{AreFacts}
use Rattle.marker_answers.proofs.facts.add_values.Given as goal

abbrev pub invariant-loop-variable : goal.invariant-loop-variable
invariant-loop-variable l = (extras : List (List ℕ)) → AreFacts l.known extras l.fn.facts.items → AreFacts l.known extras l.facts.items

abbrev pub invariant-loop-variable-2 : goal.invariant-loop-variable-2
invariant-loop-variable-2 l = (extras : List (List ℕ)) → AreFacts l.known extras l.fn.facts.items → AreFacts l.known extras l.facts.items
