use Rattle.std.proofs.Common.{sym, ap, ◌∙◌, arith}
use Rattle.std.specs.Option.{option_copied}
use Rattle.marker_walks.proofs.GrowthLaws.{grows}
use Rattle.marker_walks.proofs.WalkLaws.{end_past}
use Rattle.selection_commands.proofs.ReachedLaws.{reaches_first, reaches_leaf, reaches_node, all_reached}
use Rattle.selection_commands.proofs.reached.reached.Goals as goal
use Rattle.selection_commands.proofs.reached.reached.Goals.{in-Some-node+in_ok-add_children, in_default-node}

pub loop-index-init : goal.loop-index-init
loop-index-init c =
    reaches_first c.args.target.now c.args.table.now c.requires.rules c.args.id c.new-found.result.keys c.insert.new.self.keys c.new-found.ensures.empty c.requires.held
    (grows c.new-found.result.keys c.insert.new.self.keys c.args.id c.in_ok-insert.ensures.keys)

pub returns-in_default : goal.returns-in_default
returns-in_default c =
    all_reached c.args.target.now c.args.table.now c.requires.rules c.args.id c.loop-index.index c.loop-index.found.keys
    (end_past c.loop-index.found.keys c.loop-index.index (sym (c.in_default.ensures ∙ c.get_index.ensures.key))) c.loop-index.invariant

pub loop-index-preserved : goal.loop-index-preserved
loop-index-preserved c =
    elim c.match-node.branch [
      | in-Some-node+in_ok-add_children w ↦
          rw w.found-is (reaches_node c.args.target.now c.args.table.now c.requires.rules c.args.id c.loop-index.index c.loop-index.found.keys w.add_children.new.found.keys c.in-Some.parent w.in-Some-node.node.now
          (sym (c.in-Some.ensures ∙ c.get_index.ensures.key)) (sym w.in-Some-node.ensures.node) w.in_ok-add_children.ensures c.loop-index.invariant)
      | in_default-node w ↦
          rw w.found-is (reaches_leaf c.args.target.now c.args.table.now c.requires.rules c.args.id c.loop-index.index c.loop-index.found.keys c.in-Some.parent
          (sym (c.in-Some.ensures ∙ c.get_index.ensures.key)) (sym c.node.ensures.node ∙ ap option_copied w.in_default-node.is) c.loop-index.invariant)
    ]

pub returns-then-len-most : goal.returns-then-len-most
returns-then-len-most c = all_reached c.args.target.now c.args.table.now c.requires.rules c.args.id c.loop-index.index c.loop-index.found.keys (omega (arith, c.len.ensures.len)) c.loop-index.invariant
