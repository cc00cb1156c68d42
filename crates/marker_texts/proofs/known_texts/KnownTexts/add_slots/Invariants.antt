use Rattle.std.proofs.Common.{ℕ, List}
use Rattle.marker_diagrams.specs.declared.node_id.NodeId.{NodeId as Id}
use Rattle.marker_texts.specs.Known.{IsKnown}
use Rattle.marker_texts.proofs.known_texts.KnownTexts.add_slots.Given as goal

abbrev pub invariant-loop : goal.invariant-loop
invariant-loop l = (text : List ℕ) (id : Id) → IsKnown l.self text id → IsKnown l.initial.self text id
