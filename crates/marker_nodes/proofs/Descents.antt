-- A walk down a diagram.
use Rattle.std.proofs.Common.{◌≡◌, ◌<◌, Bool, true, not, List, Some, None, sym, ap, ◌∙◌, arith}
use Rattle.marker_environment.specs.Valuation.{Valuation}
use Rattle.marker_diagrams.specs.declared.node_id.NodeId.{NodeId}
use Rattle.marker_diagrams.specs.Id.{signed, place_of, is_negated, signed_id}
use Rattle.marker_diagrams.specs.Diagram.{node_of, IsHeld, Keeps, truth, IsStore}
use Rattle.marker_diagrams.proofs.NodeLaws.{truth_free, truth_child}
use Rattle.marker_nodes.specs.Branches.{value_at as pick}
use Rattle.marker_nodes.specs.Node.{Node, markers}

-- what is in a list is in one that keeps it
pub held_kept : (old new : List Node) (t : NodeId) → Keeps markers old new → IsHeld old t → IsHeld new t
held_kept old new t k h = let l = k.longer in omega arith

module _ (nodes : List Node) (store : IsStore markers nodes) (t u : NodeId) (n : Node) (stands : Some n ≡ node_of nodes t) (v : Valuation) (u_is : u ≡ signed_id (is_negated t) (pick n v)) where
  -- the child of the node is at a lower place
  pub down_smaller : place_of u < place_of t
  down_smaller = let h : place_of (pick n v) < place_of t = (store.node (place_of t) n (sym stands)).below v in let k : place_of u ≡ place_of (pick n v) = ap place_of u_is in omega arith

  pub down_held : IsHeld nodes t → IsHeld nodes u
  down_held i = let h = down_smaller in omega arith

  -- and means what the id means
  pub down_means : truth markers nodes u v ≡ truth markers nodes t v
  down_means = ap (λ x. truth markers nodes x v) u_is ∙ sym (truth_child markers nodes t n v (λ i m e. (store.node i m e).below) (sym stands))

signed_true : (s : Bool) → signed s true ≡ not s
signed_true s = grind arith

-- an id without a node is true if it is not a negation
pub end_means : (nodes : List Node) (t : NodeId) (v : Valuation) → None ≡ node_of nodes t → truth markers nodes t v ≡ not (is_negated t)
end_means nodes t v e = ap (signed (is_negated t)) (truth_free markers nodes (place_of t) v (sym e)) ∙ signed_true (is_negated t)
