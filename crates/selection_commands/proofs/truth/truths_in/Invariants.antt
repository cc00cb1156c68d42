-- What the marker is in the first targets.
use Rattle.marker_graph.specs.Contents.{truth}
use Rattle.selection_commands.proofs.TruthLaws.{Rows}
use Rattle.selection_commands.proofs.truth.truths_in.Given as goal

abbrev pub invariant-loop-index : goal.invariant-loop-index
invariant-loop-index l = Rows (truth l.interner l.marker) l.targets l.index l.truths.items
