-- The markers of nodes that were found, and how they grow.
use Rattle.std.specs.Prelude.{◌≡◌, ℕ, List, ◌++◌, Some, slice_get, Vec}
use Rattle.marker_graph.specs.declared.kind.MarkerTreeKind.{MarkerTreeKind}
use Rattle.marker_graph.specs.declared.tree.MarkerTree.{MarkerTree}
use Rattle.marker_graph.specs.Contents.{Contents}
use Rattle.marker_graph.specs.Kind.{AreItsEdges, IsKind}
use Rattle.std.specs.declared.alloc.Global.{Global}
use Rattle.marker_drawings.specs.declared.drawing.DrawnEdge.{DrawnEdge}
use Rattle.marker_drawings.specs.declared.drawing.DrawnNode.{DrawnNode}
use Rattle.marker_drawings.specs.declared.drawing.Target.{Target}
use Rattle.marker_drawings.specs.Drawing.{HasNode, LeadsTo, subtrees_of, targets_of}
use Rattle.marker_drawings.specs.Pairwise.{Pairwise}

-- the list has the marker
abbrev pub Has : List MarkerTree → MarkerTree → Type 0
Has trees t = (i : ℕ) × (slice_get trees i ≡ Some t)

-- no marker is in the list twice
abbrev pub IsOnce : List MarkerTree → Type 0
IsOnce trees = (i j : ℕ) (t : MarkerTree) → slice_get trees i ≡ Some t
    → slice_get trees j ≡ Some t → i ≡ j

-- The list grew at its end by those of the subtrees that it lacked and that have nodes, each once,
-- and the targets lead to the subtrees.
pub record Numbers (old new : List MarkerTree) (subtrees : List MarkerTree)
    (targets : List Target) : Type 0 where
  pub more : List MarkerTree
  pub grew : new ≡ old ++ more
  pub each : (t : MarkerTree) → Has more t → Has subtrees t × HasNode t
  pub once : IsOnce old → IsOnce new
  pub leads : Pairwise (LeadsTo new) targets subtrees

-- the same for the targets of edges
abbrev pub AddsEdges : List MarkerTree → List MarkerTree → List MarkerTree
    → Vec DrawnEdge Global → Type 0
AddsEdges old new subtrees edges = Numbers old new subtrees (targets_of edges.items)

-- the node is that of the marker, and the list grew by what its edges lead to
pub record Draws (c : Contents) (t : MarkerTree) (old new : List MarkerTree)
    (n : DrawnNode) : Type 0 where
  pub tree : n.tree ≡ t
  pub kind : MarkerTreeKind
  pub is : IsKind c t kind
  pub edges : AreItsEdges c t kind
  pub numbers : Numbers old new (subtrees_of kind) (targets_of n.edges.items)
