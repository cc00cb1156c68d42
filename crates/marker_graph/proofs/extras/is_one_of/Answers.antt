use Rattle.std.proofs.Common.{◌∙◌}
use Rattle.marker_graph.proofs.SortedNames.{found_by_search}
use Rattle.marker_graph.proofs.extras.is_one_of.Goals as goal

pub returns : goal.returns
returns c =
    c.is_ok.ensures.value
    ∙ found_by_search (λ name. name.now) c.args.name.now c.args.sorted.now c.binary_search.result
    c.binary_search.ensures.bound c.binary_search.ensures.position c.requires
