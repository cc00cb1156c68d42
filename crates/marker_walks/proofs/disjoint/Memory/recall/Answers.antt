use Rattle.marker_walks.proofs.disjoint.Memory.recall.Goals as goal

pub returns-in-Some-clause-answer : goal.returns-in-Some-clause-answer
returns-in-Some-clause-answer g c = λ nodes store i j apart. c.in-Some.ensures.answer nodes store i j
