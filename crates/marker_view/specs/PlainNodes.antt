-- Markers whose clauses parse back from their text, by their nodes.
use Rattle.std.specs.Prelude.{◌≡◌, ⊤, true, Some, string_bytes}
use Rattle.version_ranges.specs.Bounds.{all_cuts}
use Rattle.pep440_rs.specs.Bounds.{is_release}
use Rattle.pep508_names.specs.Name.{IsName}
use Rattle.marker_terms.specs.Plain.{is_plain}
use Rattle.marker_nodes.specs.declared.node.Branches.TheVariants.{Version, Text, Truth}
use Rattle.marker_nodes.specs.Node.{Node}
use Rattle.marker_nodes.specs.Variable.{Variable, of_inside, of_contains, of_arbitrary, truth_variable}
use Rattle.marker_graph.specs.declared.tree.MarkerTree.{MarkerTree}
use Rattle.marker_graph.specs.Contents.{Contents}
use Rattle.marker_graph.specs.Tree.{IsSubtree, node_of}

-- a substring test or an extra can be printed: its text lacks one of the quotes, and an arbitrary
-- extra is an invalid name
abbrev pub IsPlainVariable : Variable → Type 0
IsPlainVariable (of_inside x t) = is_plain t ≡ true
IsPlainVariable (of_contains x t) = is_plain t ≡ true
IsPlainVariable (of_arbitrary t) = ¬ IsName t × (is_plain t ≡ true)
IsPlainVariable x = ⊤

-- bounds of versions are only release numbers, and texts can be printed
abbrev pub IsPlainNode : Node → Type 0
IsPlainNode (Version x cuts) = all_cuts is_release cuts ≡ true
IsPlainNode (Text x cuts) = all_cuts (λ t. is_plain (string_bytes t)) cuts ≡ true
IsPlainNode (Truth x high low) = IsPlainVariable (truth_variable x)

-- this is true of each node of the marker
abbrev pub IsReadable : Contents → MarkerTree → Type 0
IsReadable c t = (s : MarkerTree) (n : Node) → IsSubtree c t s → node_of c s ≡ Some n
    → IsPlainNode n
