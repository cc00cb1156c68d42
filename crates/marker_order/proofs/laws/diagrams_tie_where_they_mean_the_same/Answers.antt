use Rattle.marker_order.proofs.TruthLaws.{mean_tied, tied_mean}
use Rattle.marker_order.proofs.laws.diagrams_tie_where_they_mean_the_same.Goals as goal

pub returns-clause-same : goal.returns-clause-same
returns-clause-same c = tied_mean

pub returns-clause-tied : goal.returns-clause-tied
returns-clause-tied c = mean_tied
