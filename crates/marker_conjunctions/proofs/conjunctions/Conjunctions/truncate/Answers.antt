use Rattle.marker_conjunctions.proofs.ReleaseLaws.{left_reaches}
use Rattle.marker_conjunctions.proofs.conjunctions.Conjunctions.truncate.Goals as goal

pub invariant_of-self : goal.invariant_of-self
invariant_of-self c = record {
  reached = left_reaches c.if-reach-nodes.left c.args.self.now.reaches.items c.truncate-2.new.self.items c.args.self.now.memo.entries c.truncate.new.self.entries c.args.self.now.reached c.truncate-2.ensures.items c.truncate.ensures.entries;
}
