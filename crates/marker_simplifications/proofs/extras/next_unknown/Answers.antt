use Rattle.std.proofs.Common.{Some}
use Rattle.std.proofs.lemmas.List.Elements.{All-pop}
use Rattle.marker_simplifications.specs.Granting.{IsPlain}
use Rattle.marker_simplifications.proofs.extras.next_unknown.Goals as goal

pub returns-in-None-clause-plain : goal.returns-in-None-clause-plain
returns-in-None-clause-plain c = λ n h. All-pop (IsPlain n) c.loop-id.pending.items c.pop.new.self.items (Some c.in-Some.id) c.in-Some.ensures.items (c.loop-id.invariant n h)

pub loop-id-preserved : goal.loop-id-preserved
loop-id-preserved c = λ n h. (All-pop (IsPlain n) c.loop-id.pending.items c.pop.new.self.items (Some c.in-Some.id) c.in-Some.ensures.items (c.loop-id.invariant n h)).0
