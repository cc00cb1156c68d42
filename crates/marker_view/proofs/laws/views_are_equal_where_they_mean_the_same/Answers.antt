use Rattle.marker_order.proofs.TruthLaws.{mean_tied, tied_mean}
use Rattle.marker_view.proofs.laws.views_are_equal_where_they_mean_the_same.Goals as goal

pub returns-clause-same : goal.returns-clause-same
returns-clause-same c = λ a b store other e. tied_mean a.interner.now.nodes b.interner.now.nodes store other a.tree.id b.tree.id a.held b.held e

pub returns-clause-equal : goal.returns-clause-equal
returns-clause-equal c = λ a b store other e. mean_tied a.interner.now.nodes b.interner.now.nodes store other a.tree.id b.tree.id a.held b.held e
