-- The keys of environments, and the truths that depend on them.
use Rattle.std.specs.Prelude.{◌≡◌, ℕ, Bool, true, false, ◌==◌, List, Some}
use Rattle.marker_words.specs.declared.key.TextVariable.{TextVariable}
use Rattle.marker_words.specs.declared.key.VersionVariable.{VersionVariable}
use Rattle.marker_words.specs.Key.{variable_name, version_variable_name}
use Rattle.marker_environment.specs.Valuation.{Valuation}
use Rattle.marker_diagrams.specs.declared.node_id.NodeId.{NodeId}
use Rattle.marker_diagrams.specs.Diagram.{node_of}
use Rattle.marker_diagrams.specs.Residue as residue
use Rattle.marker_nodes.specs.Branches.{variable}
use Rattle.marker_nodes.specs.Node.{Node, markers}
use Rattle.marker_nodes.specs.Variable.{Variable, of_version, of_text, of_inside, of_contains, of_extra, of_arbitrary, text_rank, version_rank}
use Rattle.marker_walks.specs.declared.keys.EnvironmentKey.{EnvironmentKey}
use Rattle.marker_walks.specs.declared.keys.EnvironmentKey.TheVariants.{Version, Text}

abbrev pub key_name : EnvironmentKey → List ℕ
key_name (Version variable) = version_variable_name variable
key_name (Text variable) = variable_name variable

-- whether a variable asks about the value of the key: which one it is, or whether it is part of a
-- text or has one as a part
abbrev pub is_about : EnvironmentKey → Variable → Bool
is_about (Version key) (of_version x) = version_rank key == version_rank x
is_about (Version key) (of_text x) = false
is_about (Version key) (of_inside x text) = false
is_about (Version key) (of_contains x text) = false
is_about (Version key) (of_extra name) = false
is_about (Version key) (of_arbitrary text) = false
is_about (Text key) (of_version x) = false
is_about (Text key) (of_text x) = text_rank key == text_rank x
is_about (Text key) (of_inside x text) = text_rank key == text_rank x
is_about (Text key) (of_contains x text) = text_rank key == text_rank x
is_about (Text key) (of_extra name) = false
is_about (Text key) (of_arbitrary text) = false

-- the node of the id asks about the value of the key
abbrev pub AsksAbout : List Node → NodeId → EnvironmentKey → Type 0
AsksAbout nodes id key = (n : Node) × (node_of nodes id ≡ Some n)
    × (is_about key (variable n) ≡ true)

-- the truth depends on a variable that asks about the value of the key: two valuations that differ
-- there alone get different answers
abbrev pub DependsOnKey : (Valuation → Bool) → EnvironmentKey → Type 0
DependsOnKey f key = (x : Variable) × (is_about key x ≡ true) × residue.DependsOn markers f x
