-- Views of markers and their order.
use Rattle.std.specs.Prelude.{◌≡◌, ℕ, Bool, List, [], Option, None, Some}
use Rattle.std.specs.Cmp.{IsTotalOrder, on_total}
use Rattle.std.specs.Ordering.{on}
use Rattle.std.specs.declared.cmp.Ordering.{Ordering}
use Rattle.marker_environment.specs.Valuation.{Valuation}
use Rattle.marker_diagrams.specs.Diagram.{IsStore}
use Rattle.marker_diagrams.specs.declared.node_id.NodeId.{NodeId}
use Rattle.marker_nodes.specs.Node.{Node, markers}
use Rattle.marker_graph.specs.Contents.{Contents, truth}
use Rattle.marker_view.specs.Text.{TellsText}
use Rattle.marker_order.specs.Order.{diagram_cmp}
use Rattle.marker_order.proofs.OrderLaws.{diagrams_total}
use Rattle.marker_view.specs.declared.view.MarkerTreeView.{MarkerTreeView}

-- what the interner of a view holds
abbrev pub contents_of : MarkerTreeView → Contents
contents_of view = view.interner.now

-- what the marker of a view means
abbrev pub truth_of : MarkerTreeView → Valuation → Bool
truth_of view = truth (contents_of view) view.tree

-- the markers of two views mean the same
abbrev pub MeanTheSame : MarkerTreeView → MarkerTreeView → Type 0
MeanTheSame a b = (v : Valuation) → truth_of a v ≡ truth_of b v

-- of any two views, over interners that keep the rules of diagrams
abbrev pub OfViews : (MarkerTreeView → MarkerTreeView → Type 0) → Type 0
OfViews P = (a b : MarkerTreeView) → IsStore markers (contents_of a).nodes
    → IsStore markers (contents_of b).nodes → P a b

-- the diagram of a view: an id, and its nodes
abbrev pub diagram_of : MarkerTreeView → List Node × NodeId
diagram_of view = ((contents_of view).nodes, view.tree.id)

-- the order of views is that of their diagrams
abbrev pub view_cmp : MarkerTreeView → MarkerTreeView → Ordering
view_cmp = on diagram_of diagram_cmp

-- it is total
pub view_total : IsTotalOrder view_cmp
view_total = on_total diagram_of diagrams_total

-- what a view writes if its marker has this text: nothing without one
abbrev pub written_text : Option (List ℕ) → List ℕ
written_text None = []
written_text (Some text) = text

-- this is true of what is written of a view
abbrev pub WithViewText : MarkerTreeView → (List ℕ → Type 0) → Type 0
WithViewText view P = (text : Option (List ℕ)) × TellsText (truth_of view) text
    × P (written_text text)
