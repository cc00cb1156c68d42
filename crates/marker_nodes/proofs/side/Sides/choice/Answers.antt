use Rattle.std.proofs.Common.{◌≡◌, ap, ◌∙◌, length, arith}
use Rattle.marker_diagrams.specs.Id.{signed_id, is_negated}
use Rattle.marker_nodes.specs.Node.{child_at}
use Rattle.marker_nodes.specs.Sides.{piece}
use Rattle.marker_nodes.proofs.PairLaws.{sides_lowest, sides_within}
use Rattle.marker_nodes.proofs.PieceChildren.{written}
use Rattle.marker_nodes.proofs.TableLaws.{node_leads, node_chooses}
use Rattle.marker_nodes.proofs.side.Sides.choice.Goals as goal

pub invariant_of-result : goal.invariant_of-result
invariant_of-result c =
    let same_length : length c.negate_all.new.children ≡ length c.args.children.items = c.negate_all.auto.children ∙ ap length c.as_mut_slice.ensures.value in
    record {
      joined = c.in_ok-node.ensures.joined;
      trimmed = c.in_ok-node.ensures.trimmed;
      leading = node_leads (piece c.args.self.now) c.args.children.items c.negate_all.new.children (child_at c.deref.result.now 0) c.in_ok-node.node
          (ap (λ xs. child_at xs 0) c.deref.ensures)
          (λ v. let h = sides_within c.args.self.now v in let e = c.requires.count in omega arith)
          (λ i l. c.negate_all.ensures i (let e = same_length in omega arith) ∙ ap (λ xs. signed_id (is_negated (child_at c.deref.result.now 0)) (child_at xs i)) c.as_mut_slice.ensures.value)
          (λ v. c.in_ok-node.ensures.value v
          ∙ ap (λ xs. child_at xs (piece c.args.self.now v)) (c.as_slice.ensures ∙ written c.negate_all.new.children c.args.children.items (length c.args.children.items) (let l = same_length in omega arith)))
          (sides_lowest c.args.self.now);
    }

pub returns-clause-child : goal.returns-clause-child
returns-clause-child c =
    let same_length : length c.negate_all.new.children ≡ length c.args.children.items = c.negate_all.auto.children ∙ ap length c.as_mut_slice.ensures.value in
    node_chooses (piece c.args.self.now) c.args.children.items c.negate_all.new.children (child_at c.deref.result.now 0) c.in_ok-node.node
    (ap (λ xs. child_at xs 0) c.deref.ensures)
    (λ v. let h = sides_within c.args.self.now v in let e = c.requires.count in omega arith)
    (λ i l. c.negate_all.ensures i (let e = same_length in omega arith) ∙ ap (λ xs. signed_id (is_negated (child_at c.deref.result.now 0)) (child_at xs i)) c.as_mut_slice.ensures.value)
    (λ v. c.in_ok-node.ensures.value v
    ∙ ap (λ xs. child_at xs (piece c.args.self.now v)) (c.as_slice.ensures ∙ written c.negate_all.new.children c.args.children.items (length c.args.children.items) (let l = same_length in omega arith)))
