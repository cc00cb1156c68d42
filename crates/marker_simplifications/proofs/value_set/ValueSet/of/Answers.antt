use Rattle.std.proofs.Common.{refl}
use Rattle.marker_nodes.specs.declared.node.Branches.TheVariants.{Version, Text}
use Rattle.marker_nodes.proofs.SideLaws.{version_clones}
use Rattle.marker_simplifications.proofs.SetLaws.{text_set_truth, version_set_truth}
use Rattle.marker_simplifications.proofs.value_set.ValueSet.of.Goals as goal

pub points_of-requires : goal.points_of-requires
points_of-requires c = record { clones = version_clones }

pub returns-in-Some : goal.returns-in-Some
returns-in-Some c =
    let stands = rw c.in-Some-Version.field-0-is at c.in-Some-Version.ensures.node in
    let points = rw c.in-Some.is at c.in_ok-ranges-in-Some-Version.ensures.points in
    version_set_truth c.args.nodes.now c.requires.rules c.args.id c.negate-inside.result c.negate-inside.ensures (Version c.in-Some-Version.variable c.in-Some-Version.edges) c.in-Some-Version.variable c.in-Some-Version.edges c.in-Some.ranges
    stands (λ v. refl) points

pub returns-in-Some-2 : goal.returns-in-Some-2
returns-in-Some-2 c =
    let stands = rw c.in-Some-Text.field-0-is at c.in-Some-Text.ensures.node in
    let points = rw c.in-Some-2.is at c.in_ok-range-in-Some-Text.ensures.points in
    text_set_truth c.args.nodes.now c.requires.rules c.args.id c.negate-inside.result c.negate-inside.ensures (Text c.in-Some-Text.variable c.in-Some-Text.edges) c.in-Some-Text.variable c.in-Some-Text.edges c.in-Some-2.range
    stands (λ v. refl) points
