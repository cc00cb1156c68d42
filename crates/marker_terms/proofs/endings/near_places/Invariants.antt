use Rattle.std.proofs.Common.{take}
use Rattle.marker_terms.specs.Endings.{AreNear}
use Rattle.marker_terms.proofs.endings.near_places.Given as goal

abbrev pub invariant-loop-term : goal.invariant-loop-term
invariant-loop-term l = AreNear l.endings (take l.term-index l.clause) l.near.items
