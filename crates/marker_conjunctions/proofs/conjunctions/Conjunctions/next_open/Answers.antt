use Rattle.marker_conjunctions.proofs.StepLaws.{pairs_popped}
use Rattle.marker_conjunctions.proofs.conjunctions.Conjunctions.next_open.Goals as goal

pub loop-left-preserved : goal.loop-left-preserved
loop-left-preserved c = λ nodes a b h. (pairs_popped nodes a b c.loop-left.pending.items c.pop.new.self.items (c.in-Some.left, c.in-Some.right) c.in-Some.ensures.items (c.loop-left.invariant nodes a b h)).0

pub returns-in-None-clause-pairs : goal.returns-in-None-clause-pairs
returns-in-None-clause-pairs c = λ nodes a b h. pairs_popped nodes a b c.loop-left.pending.items c.pop.new.self.items (c.in-Some.left, c.in-Some.right) c.in-Some.ensures.items (c.loop-left.invariant nodes a b h)
