use Rattle.std.proofs.Common.{sym, ◌∙◌}
use Rattle.marker_nodes.proofs.TableLaws.{node_ready, node_constant, node_done}
use Rattle.marker_nodes.proofs.table.NodeTable.place_choice.Goals as goal

pub returns-then-is_constant-clause-id : goal.returns-then-is_constant-clause-id
returns-then-is_constant-clause-id c = node_constant c.args.choice.first c.args.choice.node c.args.choice.leading c.args.self.now c.requires (sym c.is_constant.ensures ∙ c.if-is_constant.true)

pub insert-requires-clause-ready : goal.insert-requires-clause-ready
insert-requires-clause-ready c = node_ready c.args.choice.first c.args.choice.node c.args.choice.leading c.args.self.now c.requires c.args.choice.joined (sym c.is_constant.ensures ∙ c.if-is_constant.false)

pub returns-clause-id : goal.returns-clause-id
returns-clause-id c = rw c.negate.ensures (node_done c.args.choice.first c.args.choice.node c.args.choice.leading c.insert.new.self c.in_ok-id.id c.in_ok-id.ensures.id)
