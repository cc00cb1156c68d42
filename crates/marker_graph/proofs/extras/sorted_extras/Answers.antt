use Rattle.std.proofs.Common.{◌≡◌, map}
use Rattle.std.proofs.lemmas.Iterator.{YieldsList-from_slice}
use Rattle.std.proofs.lemmas.Iterator.Consumers.{map_from_collect}
use Rattle.std.proofs.lemmas.Result.{IfOk-at_ok}
use Rattle.marker_graph.proofs.SortedNames.{listed_in_order}
use Rattle.marker_graph.proofs.extras.sorted_extras.Goals as goal

pub returns-clause-same : goal.returns-clause-same
returns-clause-same c =
    listed_in_order c.in_ok-sorted.sorted.items _ _
    (IfOk-at_ok (λ w. map (λ name. name.now) w.items ≡ c.args.extras.now) c.in_ok-sorted.was
    (map_from_collect c.collect.result c.collect.ensures.ran
    (YieldsList-from_slice c.args.extras.now cc)))
    c.sort_unstable.ensures.permutation
