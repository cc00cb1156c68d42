use Rattle.marker_nodes.proofs.TableLaws.{node_given, node_chosen}
use Rattle.marker_nodes.proofs.table.NodeTable.place_node.Goals as goal

pub place-requires-clause-children : goal.place-requires-clause-children
place-requires-clause-children c =
    node_given c.args.node c.in_ok-children.children.items (c.in_ok-children.ensures.count) c.in_ok-children.ensures.value _ c.requires.children

pub returns-clause-id : goal.returns-clause-id
returns-clause-id c =
    node_chosen c.args.node c.in_ok-children.children.items (c.in_ok-children.ensures.count) c.in_ok-children.ensures.value _ c.place.result c.place.ensures.id
