use Rattle.std.proofs.Common.{List, length, subst}
use Rattle.marker_diagrams.specs.declared.node_id.NodeId.{NodeId}
use Rattle.marker_walks.specs.Subtrees.{AddsFirst}
use Rattle.marker_walks.proofs.WalkLaws.{adds_all, on_ok}
use Rattle.marker_walks.proofs.subtree.add_children.Goals as goal

pub returns : goal.returns
returns c = on_ok c.add_ids.result c.add_ids.ensures (λ a.
    adds_all c.args.node.now c.args.parent c.in_ok-children.children.items c.args.found.now.keys c.add_ids.new.found.keys c.in_ok-children.ensures.value c.in_ok-children.ensures.inhabited
    (let P : List NodeId → Type 0 = λ ids. AddsFirst c.args.parent ids (length ids) c.args.found.now.keys c.add_ids.new.found.keys in subst P c.deref.ensures a))
