-- The steps so far lead to a marker that is not FALSE.
use Rattle.std.proofs.Common.{◌≡◌, ◌≢◌, All}
use Rattle.marker_diagrams.specs.Id.{place_of}
use Rattle.marker_environment.specs.Valuation.{Valuation}
use Rattle.marker_graph.specs.declared.tree.TheConstants.MarkerTree.{FALSE}
use Rattle.marker_graph.specs.Contents.{IsHeld, truth}
use Rattle.marker_witnesses.specs.Path.{Follows}
use Rattle.marker_witnesses.proofs.path.path_to_true.Given as goal

abbrev pub invariant-loop-path : goal.invariant-loop-path
invariant-loop-path l = record {
  held : IsHeld l.interner l.at;
  live : l.at ≢ FALSE;
  same : (v : Valuation) → All (Follows v) l.path.items → truth l.interner l.fn.tree v ≡ truth l.interner l.at v;
}

abbrev pub decreases-loop-path : goal.decreases-loop-path
decreases-loop-path l = place_of l.at.id
