use Rattle.marker_drawings.proofs.NumberLaws.{numbers_empty}
use Rattle.marker_drawings.proofs.edges.edges_of.Goals as goal

pub returns-in-True : goal.returns-in-True
returns-in-True c = rw c.in-True.is (numbers_empty _ _ c.new.ensures.items)

pub returns-in-False : goal.returns-in-False
returns-in-False c = rw c.in-False.is (numbers_empty _ _ c.new-in-False.ensures.items)
