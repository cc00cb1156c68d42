use Rattle.pep508_markers.proofs.OrderLaws.{alike_held, joined_held, joined_means}
use Rattle.pep508_markers.proofs.run.join_alike.Goals as goal

pub join_others-requires : goal.join_others-requires
join_others-requires c = alike_held c.args.connective c.args.interner.now c.args.first c.in_ok-others.others.items c.split_alike.new.trees.items c.args.trees.now.items c.in_ok-others.ensures c.requires

pub returns-clause-held : goal.returns-clause-held
returns-clause-held c =
    joined_held c.args.connective c.args.interner.now c.args.first c.in_ok-others.others.items c.split_alike.new.trees.items c.args.trees.now.items c.in_ok-others.ensures c.requires
    c.join_others.new.interner c.in_ok-tree.tree c.join_others.ensures.kept.kept c.in_ok-tree.ensures.held

pub returns-clause-means : goal.returns-clause-means
returns-clause-means c =
    joined_means c.args.connective c.args.interner.now c.args.first c.in_ok-others.others.items c.split_alike.new.trees.items c.args.trees.now.items c.in_ok-others.ensures c.requires
    c.join_others.new.interner c.in_ok-tree.tree c.join_others.ensures.kept.kept c.in_ok-tree.ensures.means
