use Rattle.std.proofs.Common.{sym, ap, ◌∙◌}
use Rattle.std.specs.Option.{option_copied}
use Rattle.marker_diagrams.specs.Diagram.{node_of}
use Rattle.marker_nodes.proofs.EqualNodes.{equal_same}
use Rattle.marker_order.proofs.order.agree_at.Goals as goal

pub returns-in-Some-Some : goal.returns-in-Some-Some
returns-in-Some-Some c = λ e. record {
  left = c.in-Some-Some.left.now;
  right = c.in-Some-Some.right.now;
  stands = ap (node_of c.args.table.now) (sym c.new-id.ensures) ∙ sym c.node.ensures.node ∙ ap option_copied c.in-Some-Some.is-0;
  stands_too = ap (node_of c.args.other_table.now) (sym c.new-id.ensures) ∙ sym c.node-2.ensures.node ∙ ap option_copied c.in-Some-Some.is-1;
  same = equal_same c.in-Some-Some.left.now c.in-Some-Some.right.now (sym c.eq.ensures ∙ e);
}
