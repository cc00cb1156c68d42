use Rattle.std.proofs.Common.{ap, string_bytes, ◌∙◌}
use Rattle.version_ranges.proofs.FirstLaws.{first_at_bottom}
use Rattle.pep440_version.specs.Order.{version_cmp}
use Rattle.marker_words.specs.Compare.{text_cmp}
use Rattle.marker_nodes.specs.Branches.{value_at}
use Rattle.marker_nodes.specs.Node.{Node, lowest}
use Rattle.marker_nodes.proofs.table.first_child.Goals as goal

pub returns-in-Version : goal.returns-in-Version
returns-in-Version c = ap (λ (n : Node). value_at n lowest) c.in-Version.is ∙ first_at_bottom (λ v. v) version_cmp _ c.in-Version.edges _ c.leftmost_value.ensures

pub returns-in-Text : goal.returns-in-Text
returns-in-Text c = ap (λ (n : Node). value_at n lowest) c.in-Text.is ∙ first_at_bottom string_bytes text_cmp _ c.in-Text.edges _ c.leftmost_value-in-Text.ensures
