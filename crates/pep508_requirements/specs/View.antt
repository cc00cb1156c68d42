-- Markers with their interners.
use Rattle.std.specs.Prelude.{◌≡◌}
use Rattle.marker_graph.specs.declared.tree.MarkerTree.{MarkerTree}
use Rattle.marker_graph.specs.Contents.{Contents}
use Rattle.marker_view.specs.View.{contents_of}
use Rattle.marker_view.specs.declared.view.MarkerTreeView.{MarkerTreeView}

-- the view is of this marker, in an interner with these contents
pub record Shows (c : Contents) (t : MarkerTree) (view : MarkerTreeView) : Type 0 where
  pub contents : contents_of view ≡ c
  pub tree : view.tree ≡ t
