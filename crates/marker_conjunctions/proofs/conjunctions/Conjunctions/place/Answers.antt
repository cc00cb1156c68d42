use Rattle.marker_diagrams.proofs.NodeLaws.{keeps_itself}
use Rattle.marker_nodes.specs.Node.{markers}
use Rattle.marker_nodes.specs.Choice.{asked, chosen}
use Rattle.marker_conjunctions.specs.Contents.{contents}
use Rattle.marker_conjunctions.proofs.AndLaws.{and_children, placed_is, well_kept_longer}
use Rattle.marker_conjunctions.proofs.conjunctions.Conjunctions.place.Goals as goal

pub place_choice-requires : goal.place_choice-requires
place_choice-requires c =
    and_children c.args.nodes.now c.requires.held.rules.nodes c.args.a c.args.b c.requires.held.left c.requires.held.right (asked c.args.choice) c.requires.joins.first c.args.nodes.now (keeps_itself markers c.args.nodes.now)
    (chosen c.args.choice) c.requires.joins.ands

pub returns-clause-rules : goal.returns-clause-rules
returns-clause-rules c = well_kept_longer (contents c.args.nodes.now c.args.self.now) c.place_choice.new.self c.requires.held.rules (c.place_choice.ensures.kept.rules c.requires.held.rules.nodes) c.place_choice.ensures.kept.nodes

pub returns-clause-and : goal.returns-clause-and
returns-clause-and c =
    placed_is c.args.nodes.now c.requires.held.rules.nodes c.args.a c.args.b c.requires.held.left c.requires.held.right (asked c.args.choice) c.requires.joins.first c.args.nodes.now c.place_choice.new.self (chosen c.args.choice)
    (keeps_itself markers c.args.nodes.now) c.requires.joins.ands c.place_choice.ensures.kept.nodes c.place_choice.result c.place_choice.ensures.id
