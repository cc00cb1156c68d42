-- What stays of the markers of an interner, and facts of results.
use Rattle.std.proofs.Common.{◌≡◌, Bool, ap, arith}
use Rattle.std.specs.Prelude.{Result, Ok, Err, IfOk}
use Rattle.marker_environment.specs.Valuation.{Valuation}
use Rattle.marker_diagrams.specs.Id.{signed, place_of, is_negated}
use Rattle.marker_graph.specs.declared.tree.MarkerTree.{MarkerTree}
use Rattle.marker_graph.specs.Contents.{Contents, IsHeld, IsKept, truth}

-- a marker that is held means what it meant
pub kept_truth : (old new : Contents) (t : MarkerTree) → IsKept old new → IsHeld old t → (v : Valuation) → truth new t v ≡ truth old t v
kept_truth old new t k h v = ap (signed (is_negated t.id)) (k.nodes.truth (place_of t.id) v h)

-- and it is held
pub kept_held : (old new : Contents) (t : MarkerTree) → IsKept old new → IsHeld old t → IsHeld new t
kept_held old new t k h = let l = k.nodes.longer in omega arith

-- a fact of a result's value, by another one
pub if_ok : {T E : Type 0} (P Q : T → Type 0) (r : Result T E) → IfOk r P → ((x : T) → P x → Q x) → IfOk r Q
if_ok P Q (Ok x) p f = f x p
if_ok P Q (Err e) p f = tt
