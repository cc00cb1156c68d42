use Rattle.marker_diagrams.proofs.ResidueLaws.{depends, sees_none_before}
use Rattle.marker_diagrams.proofs.laws.roots_ask_the_first_variable.Goals as goal

pub returns-clause-depends : goal.returns-clause-depends
returns-clause-depends g c = λ kind nodes laws store. depends kind laws nodes store

pub returns-clause-first : goal.returns-clause-first
returns-clause-first g c = λ kind nodes laws store. sees_none_before kind laws nodes store
