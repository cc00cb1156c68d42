use Rattle.marker_graph.proofs.TextLaws.{empty_in_order}
use Rattle.marker_graph.proofs.interner.Interner.with_key_and_room.Goals as goal

pub invariant_of-result : goal.invariant_of-result
invariant_of-result c = empty_in_order c.with_key_and_room.result c.with_key.result c.new.result c.with_key_and_room.ensures.empty c.with_key_and_room.ensures.rules c.with_key.ensures.empty c.new.ensures
