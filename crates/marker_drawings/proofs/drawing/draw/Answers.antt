use Rattle.std.proofs.Common.{◌≤◌, [], ◌∷◌, length, refl, sym, ap, ◌∙◌, arith, length-append}
use Rattle.marker_drawings.proofs.ListLaws.{end_past}
use Rattle.marker_drawings.proofs.WalkLaws.{walks_first, walks_node, walked}
use Rattle.marker_drawings.proofs.drawing.draw.Goals as goal

pub loop-index-init : goal.loop-index-init
loop-index-init c = record {
  walks = walks_first c.args.interner.now c.args.tree c.new-found.result.keys c.target_of.new.found.keys c.in_ok-root.root c.new-nodes.result.items c.new-found.ensures.empty c.new-nodes.ensures.items c.requires c.in_ok-root.ensures;
  count = ap length c.new-nodes.ensures.items;
}

pub draw_node-requires : goal.draw_node-requires
draw_node-requires c = c.loop-index.invariant.walks.held c.loop-index.index c.in-Some.next (sym (c.in-Some.ensures ∙ c.get_index.ensures.key))

pub loop-index-preserved : goal.loop-index-preserved
loop-index-preserved c = record {
  walks = walks_node c.args.interner.now c.args.tree c.in-Some.next c.loop-index.found.keys c.draw_node.new.found.keys c.in_ok-root.root c.loop-index.nodes.items c.push.new.self.items c.in_ok-node.node c.loop-index.index c.loop-index.invariant.count
      (sym (c.in-Some.ensures ∙ c.get_index.ensures.key)) c.in_ok-node.ensures c.in_ok-push.ensures.items c.loop-index.invariant.walks;
  count = omega (arith, ap length c.in_ok-push.ensures.items, length-append c.loop-index.nodes.items (c.in_ok-node.node ∷ []), c.loop-index.invariant.count);
}

pub returns-in_default-clause-drawing : goal.returns-in_default-clause-drawing
returns-in_default-clause-drawing c =
    let l : length c.loop-index.found.keys ≤ c.loop-index.index = end_past c.loop-index.found.keys c.loop-index.index (sym (c.in_default.ensures ∙ c.get_index.ensures.key)) in
    walked c.args.interner.now c.args.tree c.loop-index.found.keys c.in_ok-root.root c.loop-index.nodes.items (record { root = c.in_ok-root.root; nodes = c.loop-index.nodes }) refl refl (omega (arith, c.loop-index.invariant.count)) c.loop-index.invariant.walks

pub returns-then-len-most-clause-drawing : goal.returns-then-len-most-clause-drawing
returns-then-len-most-clause-drawing c =
    walked c.args.interner.now c.args.tree c.loop-index.found.keys c.in_ok-root.root c.loop-index.nodes.items (record { root = c.in_ok-root.root; nodes = c.loop-index.nodes }) refl refl (omega (arith, c.len.ensures.len, c.loop-index.invariant.count)) c.loop-index.invariant.walks

pub returns-in_default-clause-within : goal.returns-in_default-clause-within
returns-in_default-clause-within c = omega (arith, c.loop-index.invariant.count)

pub returns-then-len-most-clause-within : goal.returns-then-len-most-clause-within
returns-then-len-most-clause-within c = omega (arith, c.loop-index.invariant.count)
