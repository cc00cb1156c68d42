use Rattle.std.proofs.Common.{min, ap, ◌∙◌}
use Rattle.marker_conjunctions.proofs.ReleaseLaws.{reach_found}
use Rattle.marker_conjunctions.proofs.conjunctions.Conjunctions.reach.Goals as goal

pub returns-in-Some : goal.returns-in-Some
returns-in-Some c =
    reach_found c.args.self.now.memo.entries c.args.self.now.reaches.items c.args.known c.args.self.now.reached c.min.result c.in-Some.last c.index.result.now
    (c.min.ensures ∙ ap (min c.args.known) (c.len.ensures ∙ c.args.self.now.reaches.ok.0)) c.in-Some.ensures.0 c.in-Some.ensures.1 c.index.ensures
