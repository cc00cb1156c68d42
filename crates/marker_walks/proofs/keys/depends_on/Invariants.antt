-- No subtree before the index has a node that asks about the key.
use Rattle.std.proofs.Common.{◌≡◌, ℕ, ◌<◌, Some}
use Rattle.std.specs.Prelude.{slice_get}
use Rattle.marker_diagrams.specs.declared.node_id.NodeId.{NodeId}
use Rattle.marker_walks.specs.Keys.{AsksAbout}
use Rattle.marker_walks.proofs.keys.depends_on.Given as goal

abbrev pub invariant-loop-index : goal.invariant-loop-index
invariant-loop-index l = (i : ℕ) (u : NodeId) → i < l.index → slice_get l.subtrees i ≡ Some u → AsksAbout l.table u l.key → ⊥
