use Rattle.std.proofs.Common.{ℕ}
use Rattle.std.specs.Prelude.{All}
use Rattle.marker_diagrams.specs.Id.{place_of}
use Rattle.marker_nodes.specs.Table.{GrowsByRules}
use Rattle.marker_simplifications.specs.Granting.{IsPlain, IsUnknown}
use Rattle.marker_simplifications.proofs.extras.descend.Given as goal

abbrev pub invariant-loop-made : goal.invariant-loop-made
invariant-loop-made g l = record {
  kept : GrowsByRules l.initial.nodes l.nodes;
  plain : (n : ℕ) → IsPlain n l.fn.first → IsPlain n l.at;
  unknown : IsUnknown l.known.entries l.at;
  pending : (n : ℕ) → IsPlain n l.fn.first → All (IsPlain n) l.initial.pending.items → All (IsPlain n) l.pending.items;
}

abbrev pub decreases-loop-made : goal.decreases-loop-made
decreases-loop-made g l = place_of l.at
