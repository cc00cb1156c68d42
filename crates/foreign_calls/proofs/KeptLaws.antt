-- Markers that stay in an interner.
use Rattle.std.proofs.Common.{◌≡◌, ap, arith}
use Rattle.marker_environment.specs.Valuation.{Valuation}
use Rattle.marker_diagrams.specs.Id.{signed}
use Rattle.marker_graph.specs.declared.tree.MarkerTree.{MarkerTree}
use Rattle.marker_graph.specs.Contents.{Contents, IsHeld, IsKept, truth}

-- a tree that stays in an interner means what it meant
pub truth_kept : (c d : Contents) (t : MarkerTree) → IsKept c d → IsHeld c t → (v : Valuation) → truth d t v ≡ truth c t v
truth_kept c d t kept held v = ap (signed t.id.complement) (kept.nodes.truth t.id.place v held)

-- and stands there
pub held_kept : (c d : Contents) (t : MarkerTree) → IsKept c d → IsHeld c t → IsHeld d t
held_kept c d t kept held = omega (arith, held, kept.nodes.longer)
