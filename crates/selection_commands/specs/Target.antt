-- Environments of which some values are known, and what they answer.
use Rattle.std.specs.Prelude.{Bool, false, Option, Some, option_map, string_bytes, if◌then◌else◌}
use Rattle.version_ranges.specs.Cuts.{value_by, value_of}
use Rattle.version_ranges.specs.Point.{at}
use Rattle.pep440_version.specs.Order.{version_cmp}
use Rattle.marker_words.specs.Compare.{text_cmp}
use Rattle.marker_environment.specs.Substring.{is_part_of}
use Rattle.marker_environment.specs.Valuation.{Valuation}
use Rattle.marker_diagrams.specs.declared.node_id.NodeId.{NodeId}
use Rattle.marker_nodes.specs.declared.node.Branches.TheVariants.{Version, Text, Truth}
use Rattle.marker_nodes.specs.declared.variable.TruthVariable.{TruthVariable}
use Rattle.marker_nodes.specs.declared.variable.TruthVariable.TheVariants.{In, Contains, Extra, Arbitrary}
use Rattle.marker_nodes.specs.Node.{Node}
use Rattle.marker_walks.specs.Possible.{is_listed}
use Rattle.marker_answers.specs.Known.{HasValues, known_text, known_version}
use Rattle.selection_commands.specs.declared.target.Target.{Target}

-- the valuation has the known values of the target, and requests exactly its extras
abbrev pub Agrees : Target → Valuation → Type 0
Agrees target v = HasValues target.known target.extras.items v

-- the answer to a substring test or an extra, if the target gives it
abbrev pub known_answer : Target → TruthVariable → Option Bool
known_answer target (In x text) =
    option_map (λ value. is_part_of value (string_bytes text)) (known_text target.known x)
known_answer target (Contains x text) =
    option_map (λ value. is_part_of (string_bytes text) value) (known_text target.known x)
known_answer target (Extra name) = Some (is_listed target.extras.items name)
known_answer target (Arbitrary text) = Some false

-- the child of a node that the target selects, if it has the node's value
abbrev pub known_child : Target → Node → Option NodeId
known_child target (Version x edges) =
    option_map (λ value. value_of version_cmp edges (at value)) (known_version target.known x)
known_child target (Text x edges) =
    option_map (λ value. value_by string_bytes text_cmp edges (at value))
    (known_text target.known x)
known_child target (Truth x high low) =
    option_map (λ b. if b then high else low) (known_answer target x)
