use Rattle.marker_graph.proofs.ShownLaws.{shown_subtree, subtree_shown}
use Rattle.marker_graph.proofs.laws.subtrees_are_those_that_kind_shows.Goals as goal

pub returns-clause-subtree : goal.returns-clause-subtree
returns-clause-subtree c = shown_subtree

pub returns-clause-shown : goal.returns-clause-shown
returns-clause-shown c = λ d store t s i h. subtree_shown d store t s.id h
