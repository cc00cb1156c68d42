-- Truths whose markers print as a text that parses back, by a formula of them.
use Rattle.std.specs.Prelude.{◌≡◌, ⊤, Bool, true, Some}
use Rattle.std.specs.List.{AllByRecursion}
use Rattle.pep440_rs.specs.Bounds.{IsRelease}
use Rattle.pep508_names.specs.Name.{IsName}
use Rattle.marker_environment.specs.Valuation.{Valuation}
use Rattle.marker_parts.specs.Expression.{Test, version, version_in, text, extra, name, arbitrary}
use Rattle.marker_grammar.specs.Formula.{Formula, test, both, either, truth_of}
use Rattle.marker_nodes.specs.declared.node.Branches.TheVariants.{Truth}
use Rattle.marker_nodes.specs.declared.variable.TruthVariable.{TruthVariable}
use Rattle.marker_nodes.specs.Variable.{truth_variable}
use Rattle.marker_graph.specs.declared.tree.MarkerTree.{MarkerTree}
use Rattle.marker_diagrams.specs.declared.node_id.NodeId.{NodeId}
use Rattle.marker_graph.specs.Contents.{Contents}
use Rattle.marker_graph.specs.Tree.{IsSubtree, node_of}
use Rattle.marker_terms.specs.Plain.{is_plain}
pub use Rattle.marker_view.specs.Branch.{IsReleaseNode, HasReleases}
pub use Rattle.marker_view.specs.PlainNodes.{IsPlainNode, IsPlainVariable, IsReadable}

-- each node that branches on a substring test or an extra has one that can be printed
abbrev pub AsksPlainQuestions : Contents → MarkerTree → Type 0
AsksPlainQuestions c t = (s : MarkerTree) (x : TruthVariable) (high low : NodeId)
    → IsSubtree c t s → node_of c s ≡ Some (Truth x high low) → IsPlainVariable (truth_variable x)

-- the bounds of a comparison are releases, and its texts can be printed
abbrev pub IsPlainTest : Test → Type 0
IsPlainTest (version key s) = ⊤
IsPlainTest (version_in key versions negated) = AllByRecursion IsRelease versions
IsPlainTest (text key operator t) = is_plain t ≡ true
IsPlainTest (extra operator (name n)) = ⊤
IsPlainTest (extra operator (arbitrary t)) = ¬ IsName t × (is_plain t ≡ true)

abbrev pub AllPlain : Formula → Type 0
AllPlain (test t) = IsPlainTest t
AllPlain (both f g) = AllPlain f × AllPlain g
AllPlain (either f g) = AllPlain f × AllPlain g

-- the truth is that of a formula of such comparisons
abbrev pub IsReadableTruth : (Valuation → Bool) → Type 0
IsReadableTruth f = (g : Formula) × AllPlain g × ((v : Valuation) → f v ≡ truth_of g v)
