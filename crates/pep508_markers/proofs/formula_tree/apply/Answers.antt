use Rattle.marker_parts.specs.Expression.{test_of}
use Rattle.pep508_markers.proofs.TreeLaws.{runs_test}
use Rattle.pep508_markers.proofs.formula_tree.apply.Goals as goal

pub returns-in_ok-push-in-Expression-clause-runs : goal.returns-in_ok-push-in-Expression-clause-runs
returns-in_ok-push-in-Expression-clause-runs c = λ stack h.
    rw c.in-Expression.is (runs_test c.args.interner.now c.tree_of_valid.new.interner (test_of c.in-Expression.expression) stack c.args.runs.now.items c.push.new.self.items c.run_of-run.result c.in_ok-tree-in-Expression.tree c.tree_of_valid.ensures.kept.kept h c.in_ok-tree-in-Expression.ensures.held c.in_ok-tree-in-Expression.ensures.means c.in_ok-push-in-Expression.ensures.items c.run_of-run.ensures.trees)
