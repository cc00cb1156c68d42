use Rattle.std.proofs.Common.{refl, ◌∙◌, subst}
use Rattle.std.proofs.lemmas.Bool.{and_from}
use Rattle.marker_nodes.specs.Branches.{variable}
use Rattle.marker_nodes.specs.Side.{IsFirst, IsSide}
use Rattle.marker_nodes.specs.Variable.{of_version, of_text}
use Rattle.marker_nodes.proofs.SideLaws.{both_children, node_child, truth_children}
use Rattle.marker_nodes.proofs.table.NodeTable.side_by_side.Goals as goal

pub returns-in-Version : goal.returns-in-Version
returns-in-Version c =
    let first = c.first_node-first.result in
    let left = subst (λ n. IsSide c.args.self.now (variable n) c.args.a.now first.left.now first.asks_left) c.in-Version.is c.first_node-first.ensures.left in
    let right = subst (λ n. IsSide c.args.self.now (variable n) c.args.b.now first.right.now first.asks_right) c.in-Version.is c.first_node-first.ensures.right in
    record {
      first = subst (λ n. IsFirst c.args.self.now (variable n) c.args.a.now c.args.b.now) c.in-Version.is c.first_node-first.ensures.first;
      children = λ v.
          both_children c.args.self.now (of_version c.in-Version.variable) c.args.a.now c.args.b.now v _ _ (c.version_side-left.ensures.children v ∙ node_child c.args.self.now _ _ _ _ left v)
          (c.version_side-right.ensures.children v ∙ node_child c.args.self.now _ _ _ _ right v);
      trimmed = and_from _ _ c.version_side-left.ensures.trimmed c.version_side-right.ensures.trimmed;
    }

pub returns-in-Text : goal.returns-in-Text
returns-in-Text c =
    let first = c.first_node-first.result in
    let left = subst (λ n. IsSide c.args.self.now (variable n) c.args.a.now first.left.now first.asks_left) c.in-Text.is c.first_node-first.ensures.left in
    let right = subst (λ n. IsSide c.args.self.now (variable n) c.args.b.now first.right.now first.asks_right) c.in-Text.is c.first_node-first.ensures.right in
    record {
      first = subst (λ n. IsFirst c.args.self.now (variable n) c.args.a.now c.args.b.now) c.in-Text.is c.first_node-first.ensures.first;
      children = λ v.
          both_children c.args.self.now (of_text c.in-Text.variable) c.args.a.now c.args.b.now v _ _ (c.text_side-left.ensures v ∙ node_child c.args.self.now _ _ _ _ left v)
          (c.text_side-right.ensures v ∙ node_child c.args.self.now _ _ _ _ right v);
      trimmed = refl;
    }

pub returns-in-Truth : goal.returns-in-Truth
returns-in-Truth c =
    let first = c.first_node-first.result in
    let left = subst (λ n. IsSide c.args.self.now (variable n) c.args.a.now first.left.now first.asks_left) c.in-Truth.is c.first_node-first.ensures.left in
    let right = subst (λ n. IsSide c.args.self.now (variable n) c.args.b.now first.right.now first.asks_right) c.in-Truth.is c.first_node-first.ensures.right in
    record {
      first = subst (λ n. IsFirst c.args.self.now (variable n) c.args.a.now c.args.b.now) c.in-Truth.is c.first_node-first.ensures.first;
      children = truth_children c.args.self.now c.in-Truth.variable c.args.a.now c.args.b.now c.halves.result.0.now c.halves.result.1.now c.halves-in-Truth.result.0.now c.halves-in-Truth.result.1.now
          (λ v. c.halves.ensures v ∙ node_child c.args.self.now _ _ _ _ left v) (λ v. c.halves-in-Truth.ensures v ∙ node_child c.args.self.now _ _ _ _ right v);
      trimmed = refl;
    }
