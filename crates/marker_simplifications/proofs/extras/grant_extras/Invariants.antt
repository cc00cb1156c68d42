use Rattle.std.proofs.Common.{length}
use Rattle.std.specs.Fn.{FnReturnsAt}
use Rattle.std.specs.Prelude.{All}
use Rattle.marker_diagrams.specs.Diagram.{Keeps}
use Rattle.marker_nodes.specs.Node.{markers}
use Rattle.marker_simplifications.specs.Granting.{IsPlain}
use Rattle.marker_simplifications.specs.Simplified.{KnowsGranted}
use Rattle.marker_simplifications.proofs.GrantSteps.{unknown_ids}
use Rattle.marker_simplifications.proofs.extras.grant_extras.Given as goal

abbrev pub invariant-loop-found : goal.invariant-loop-found
invariant-loop-found g l = record {
  kept : Keeps markers l.initial.nodes l.nodes;
  known : KnowsGranted l.nodes (FnReturnsAt g.F.Fn l.is_extra) l.known.entries;
  pending : All (IsPlain (length l.initial.nodes)) l.pending.items;
}

abbrev pub decreases-loop-found : goal.decreases-loop-found
decreases-loop-found g l = unknown_ids (length l.initial.nodes) l.known.entries
