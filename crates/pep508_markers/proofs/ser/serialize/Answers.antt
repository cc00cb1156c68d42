use Rattle.std.proofs.Common.{sym, ◌∙◌, arith}
use Rattle.marker_nodes.proofs.Firsts.{true_is}
use Rattle.marker_graph.specs.declared.tree.TheConstants.MarkerTree.{TRUE}
use Rattle.marker_graph.specs.Contents.{IsHeld}
use Rattle.marker_graph.proofs.TreeLaws.{same_tree}
use Rattle.pep508_markers.proofs.ser.serialize.Goals as goal

pub returns-in-None-clause-err : goal.returns-in-None-clause-err
returns-in-None-clause-err c =
    let rules = c.keeps_the_rules.ensures.nodes in
    let told = rw c.in-None.is at c.in_ok-text.ensures in
    let held : IsHeld c.args.interner.now TRUE = omega arith in
    same_tree c.args.interner.now rules c.args.tree.now TRUE c.requires held (λ v. told v ∙ sym (true_is c.args.interner.now.nodes v))
