use Rattle.std.proofs.Common.{◌≡◌, length}
use Rattle.version_ranges.specs.Clamp.{bound_of}
use Rattle.marker_diagrams.specs.Diagram.{Keeps}
use Rattle.marker_nodes.specs.Node.{markers}
use Rattle.marker_simplifications.specs.Simplified.{AreAssumed, KnowsBetween}
use Rattle.marker_simplifications.proofs.python.assume_all.Given as goal

abbrev pub invariant-loop-child : goal.invariant-loop-child
invariant-loop-child l = record {
  kept : Keeps markers l.initial.nodes l.nodes;
  known : KnowsBetween l.nodes l.lower l.upper l.known.entries;
  len : length l.made.items ≡ l.child-index;
  done : AreAssumed l.nodes (bound_of l.lower) (bound_of l.upper) l.children l.made.items;
}
