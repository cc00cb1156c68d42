use Rattle.std.proofs.Common.{◌≡◌, ◌<◌, ℕ, List, [], Some}
use Rattle.std.specs.Prelude.{All, slice_get}
use Rattle.marker_diagrams.specs.declared.node_id.NodeId.{NodeId}
use Rattle.marker_nodes.specs.Node.{Node}
use Rattle.marker_simplifications.specs.Granting.{IsUnknown, IsWanted, plain}
use Rattle.marker_simplifications.specs.Simplified.{AreUnder}
use Rattle.marker_simplifications.proofs.extras.unknown_ids.Given as goal

abbrev pub invariant-loop-id : goal.invariant-loop-id
invariant-loop-id l = record {
  wanted : (nodes : List Node) (parent : NodeId) → AreUnder nodes parent l.ids → All (IsWanted l.known.entries parent) l.wanted.items;
  none : l.wanted.items ≡ [] → (i : ℕ) (t : NodeId) → i < l.id-index → slice_get l.ids i ≡ Some t → ¬ IsUnknown l.known.entries (plain t);
}
