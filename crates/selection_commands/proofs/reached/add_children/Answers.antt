use Rattle.std.proofs.Common.{List, length, sym, subst}
use Rattle.marker_diagrams.specs.declared.node_id.NodeId.{NodeId}
use Rattle.marker_walks.specs.Subtrees.{AddsFirst}
use Rattle.marker_walks.proofs.GrowthLaws.{grows}
use Rattle.marker_walks.proofs.WalkLaws.{adds_all, on_ok}
use Rattle.selection_commands.proofs.ReachedLaws.{adds_known, adds_open}
use Rattle.selection_commands.proofs.reached.add_children.Goals as goal

pub returns-in_ok-insert-in-Some : goal.returns-in_ok-insert-in-Some
returns-in_ok-insert-in-Some c =
    adds_known c.args.target.now c.args.node.now c.args.parent c.args.found.now.keys c.insert.new.self.keys c.in-Some.child c.negate.result (sym c.in-Some.ensures) c.negate.ensures
    (grows c.args.found.now.keys c.insert.new.self.keys c.negate.result c.in_ok-insert-in-Some.ensures.keys)

pub returns-in_ok-children-in-None : goal.returns-in_ok-children-in-None
returns-in_ok-children-in-None c = on_ok c.add_ids.result c.add_ids.ensures (λ a.
    adds_open c.args.target.now c.args.node.now c.args.parent c.args.found.now.keys c.add_ids.new.found.keys (sym c.in-None.ensures)
    (adds_all c.args.node.now c.args.parent c.in_ok-children-in-None.children.items c.args.found.now.keys c.add_ids.new.found.keys c.in_ok-children-in-None.ensures.value c.in_ok-children-in-None.ensures.inhabited
    (let P : List NodeId → Type 0 = λ ids. AddsFirst c.args.parent ids (length ids) c.args.found.now.keys c.add_ids.new.found.keys in subst P c.deref.ensures a)))
