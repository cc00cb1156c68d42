use Rattle.std.proofs.Common.{◌≡◌, ◌+◌, None}
use Rattle.marker_diagrams.specs.Id.{place_of}
use Rattle.marker_order.specs.Agreement.{AreKnown}
use Rattle.marker_order.specs.Turns.{turns_left}
use Rattle.marker_order.proofs.TurnLaws.{Continues}
use Rattle.marker_order.proofs.order.+order_from.Given as goal

abbrev pub decreases-order_from : goal.decreases-order_from
decreases-order_from g l = place_of l.id + place_of l.other

abbrev pub invariant-loop-turn : goal.invariant-loop-turn
invariant-loop-turn g l = record { turns : Continues l.table l.other_table l.id l.other (turns_left l.turn-iterator); known : AreKnown l.table l.other_table l.memory.agreed l.memory.equal; unbounded : l.fn.memory.looks ≡ None → l.memory.looks ≡ None }
