-- What the drawing of a marker is.
use Rattle.std.specs.Prelude.{◌≡◌, ◌≢◌, ℕ, ◌+◌, List, [], ◌∷◌, Some, map, slice_get}
use Rattle.marker_graph.specs.declared.kind.MarkerTreeKind.{MarkerTreeKind}
use Rattle.marker_graph.specs.declared.kind.MarkerTreeKind.TheVariants as kinds
use Rattle.marker_graph.specs.declared.kind.StringMarkerTree.{StringMarkerTree}
use Rattle.marker_graph.specs.declared.kind.VersionMarkerTree.{VersionMarkerTree}
use Rattle.marker_graph.specs.declared.tree.MarkerTree.{MarkerTree}
use Rattle.marker_graph.specs.declared.tree.TheConstants.MarkerTree as constants
use Rattle.marker_graph.specs.Contents.{Contents}
use Rattle.marker_graph.specs.Kind.{string_edges, version_edges, IsKind}
use Rattle.marker_graph.specs.Tree.{IsSubtree}
use Rattle.marker_drawings.specs.declared.drawing.DrawnEdge.{DrawnEdge}
use Rattle.marker_drawings.specs.declared.drawing.DrawnNode.{DrawnNode}
use Rattle.marker_drawings.specs.declared.drawing.Drawing.{Drawing}
use Rattle.marker_drawings.specs.declared.drawing.Target.{Target}
use Rattle.marker_drawings.specs.declared.drawing.Target.TheVariants.{True, False, Node}
use Rattle.marker_drawings.specs.Pairwise.{Pairwise}

-- the subtrees at the edges of a kind, in the order of the edges
abbrev pub version_subtrees : VersionMarkerTree → List MarkerTree
version_subtrees view = map (λ e. e.value) (version_edges view)

abbrev pub text_subtrees : StringMarkerTree → List MarkerTree
text_subtrees view = map (λ e. e.value) (string_edges view)

abbrev pub subtrees_of : MarkerTreeKind → List MarkerTree
subtrees_of kinds.True = []
subtrees_of kinds.False = []
subtrees_of (kinds.Version view) = version_subtrees view
subtrees_of (kinds.String view) = text_subtrees view
subtrees_of (kinds.In view) = view.high ∷ view.low ∷ []
subtrees_of (kinds.Contains view) = view.high ∷ view.low ∷ []
subtrees_of (kinds.Extra view) = view.high ∷ view.low ∷ []

abbrev pub targets_of : List DrawnEdge → List Target
targets_of edges = map (λ e. e.target) edges

abbrev pub trees_of : List DrawnNode → List MarkerTree
trees_of nodes = map (λ n. n.tree) nodes

-- a marker that has a node
abbrev pub HasNode : MarkerTree → Type 0
HasNode t = (t ≢ constants.TRUE) × (t ≢ constants.FALSE)

-- the target, among nodes of these markers, is that of a marker
abbrev pub LeadsTo : List MarkerTree → Target → MarkerTree → Type 0
LeadsTo trees True t = t ≡ constants.TRUE
LeadsTo trees False t = t ≡ constants.FALSE
LeadsTo trees (Node i) t = slice_get trees i ≡ Some t

-- the edges of a node are those of its marker's kind: as many, in order, to the subtrees there
abbrev pub IsDrawn : Contents → List MarkerTree → DrawnNode → Type 0
IsDrawn c trees n = (kind : MarkerTreeKind) × IsKind c n.tree kind
    × Pairwise (LeadsTo trees) (targets_of n.edges.items) (subtrees_of kind)

-- these are the subtrees of a marker that have nodes, each once, the marker itself first
pub record AreNodesOf (c : Contents) (t : MarkerTree) (trees : List MarkerTree) : Type 0 where
  pub first : HasNode t → slice_get trees 0 ≡ Some t
  pub all : (s : MarkerTree) → IsSubtree c t s → HasNode s
      → (i : ℕ) × (slice_get trees i ≡ Some s)
  pub each : (i : ℕ) (s : MarkerTree) → slice_get trees i ≡ Some s → IsSubtree c t s × HasNode s
  pub once : (i j : ℕ) (s : MarkerTree) → slice_get trees i ≡ Some s → slice_get trees j ≡ Some s
      → i ≡ j

-- The drawing begins at the marker, has the nodes of its subtrees, and each node is drawn.
pub record IsDrawing (c : Contents) (t : MarkerTree) (d : Drawing) : Type 0 where
  pub root : LeadsTo (trees_of d.nodes.items) d.root t
  pub nodes : AreNodesOf c t (trees_of d.nodes.items)
  pub drawn : (i : ℕ) (n : DrawnNode) → slice_get d.nodes.items i ≡ Some n
      → IsDrawn c (trees_of d.nodes.items) n
