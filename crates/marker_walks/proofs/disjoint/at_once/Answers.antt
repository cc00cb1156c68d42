use Rattle.std.proofs.Common.{sym, ◌∙◌}
use Rattle.marker_walks.proofs.Disjoints.{tells_short}
use Rattle.marker_walks.proofs.Lowest.{plain_meet}
use Rattle.marker_walks.proofs.disjoint.at_once.Goals as goal

pub returns-then-not-is_complement-2-clause-answer : goal.returns-then-not-is_complement-2-clause-answer
returns-then-not-is_complement-2-clause-answer c = λ nodes store i j.
    plain_meet nodes store c.args.a c.args.b (sym c.is_complement.ensures ∙ c.if-not-is_complement.true) (sym c.is_complement-then-not-is_complement.ensures ∙ c.if-not-is_complement-2.true)

pub returns-in-Some-clause-answer : goal.returns-in-Some-clause-answer
returns-in-Some-clause-answer c = λ nodes store i j. tells_short nodes store c.args.a c.args.b i j _ (c.in-Some.ensures.short nodes i j) _ c.eq.ensures
