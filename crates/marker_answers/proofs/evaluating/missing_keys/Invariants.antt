-- The keys so far are missing.
use Rattle.std.proofs.Common.{All}
use Rattle.marker_graph.specs.Contents.{truth}
use Rattle.marker_walks.specs.Keys.{DependsOnKey}
use Rattle.marker_answers.proofs.evaluating.missing_keys.Given as goal

abbrev pub invariant-loop-key : goal.invariant-loop-key
invariant-loop-key l = All (λ key. DependsOnKey (truth l.fn.interner l.fn.both) key × ¬ DependsOnKey (truth l.fn.interner l.fn.given) key) l.keys.items
