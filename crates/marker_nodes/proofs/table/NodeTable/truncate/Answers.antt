use Rattle.std.proofs.Common.{◌≡◌, suc, ◌+◌, ◌-◌, ◌∷◌, ◌++◌, [], drop, reverse, ap, ◌∙◌, subst, sym, arith}
use Rattle.std.specs.Option.{option_to_list}
use Rattle.marker_nodes.specs.Table.{HasRoom}
use Rattle.marker_nodes.proofs.OldestLaws.{oldest_left, popped_nodes, popped_room}
use Rattle.marker_nodes.proofs.table.NodeTable.truncate.Goals as goal

pub loop-preserved : goal.loop-preserved
loop-preserved c =
    let keys = c.loop.self-inside.nodes.keys in
    let all = reverse c.self.inside.nodes.keys in
    let new = c.pop.new.self.keys in
    let node = c.unwrap-node.result in
    let gone = c.loop.counter - c.args.len in
    let popped : keys ≡ new ++ node ∷ [] = c.pop.ensures.keys ∙ ap (λ o. new ++ option_to_list o) c.unwrap-node.ensures in
    let next : suc gone ≡ c.loop.counter + 1 - c.args.len = omega (arith, c.loop.auto.counter) in
    record {
      room = subst (λ n. HasRoom (reverse new) (c.loop.self-inside.pieces - n) c.loop.self-inside.room) (sym c.piece_count.ensures)
          (popped_room keys all new node gone popped c.loop.invariant.left c.loop.self-inside.pieces c.loop.self-inside.room c.loop.invariant.room);
      left = popped_nodes keys all new node gone popped c.loop.invariant.left ∙ ap (λ i. drop i all) next;
      still = λ few. let h = c.loop.invariant.still few in absurd (omega (arith, h, few, c.loop-test.true));
    }

pub returns : goal.returns
returns c = oldest_left c.self.inside.nodes.keys c.args.self.now _ c.args.len c.loop.counter c.len-end.result c.loop.invariant.left c.self.view_is c.len-end.ensures.len c.loop-test.false c.loop.auto.counter-end c.loop.invariant.still
