-- Contents of requirements, and their markers.
use Rattle.std.specs.Prelude.{Option, Some, None}
use Rattle.marker_graph.specs.declared.contents.MarkerTreeContents.{MarkerTreeContents}
use Rattle.marker_graph.specs.declared.tree.MarkerTree.{MarkerTree}
use Rattle.marker_graph.specs.declared.tree.TheConstants.MarkerTree.{TRUE}

-- the marker of contents: `TRUE` without any
abbrev pub tree_of_contents : Option MarkerTreeContents → MarkerTree
tree_of_contents None = TRUE
tree_of_contents (Some contents) = contents.tree
