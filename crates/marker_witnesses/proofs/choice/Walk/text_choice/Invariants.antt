-- The edges so far were looked at.
use Rattle.marker_words.specs.Compare.{text_cmp}
use Rattle.marker_graph.specs.Edges.{string_edges_left}
use Rattle.marker_graph.specs.Kind.{string_edges}
use Rattle.marker_witnesses.proofs.ChoiceLaws.{Looked}
use Rattle.marker_witnesses.proofs.choice.Walk.text_choice.Given as goal

abbrev pub invariant-loop-edge : goal.invariant-loop-edge
invariant-loop-edge l = Looked text_cmp (λ v. v.text l.fn.view.variable) (string_edges l.fn.view) (string_edges_left l.edge-iterator) l.chosen
