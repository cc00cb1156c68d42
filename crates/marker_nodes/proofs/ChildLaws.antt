-- What children at a variable keep.
use Rattle.std.proofs.Common.{◌≡◌, ◌+◌, ◌<◌, ◌≤◌, true, false, List, Some, refl, sym, subst, arith}
use Rattle.std.specs.Ordering.{is_eq, is_gt}
use Rattle.std.specs.declared.cmp.Ordering.{Ordering}
use Rattle.std.specs.declared.cmp.Ordering.TheVariants.{Less, Equal}
use Rattle.std.proofs.lemmas.Cmp.{tied_itself}
use Rattle.marker_environment.specs.Valuation.{Valuation}
use Rattle.marker_diagrams.specs.declared.node_id.NodeId.{NodeId}
use Rattle.marker_diagrams.specs.Id.{place_of, is_negated, signed_id}
use Rattle.marker_diagrams.specs.Diagram.{node_of, IsHeld, truth, IsStore, IsAfter}
use Rattle.marker_diagrams.specs.Residue.{IsSubtree, itself, child}
use Rattle.marker_diagrams.proofs.NodeLaws.{truth_child}
use Rattle.marker_nodes.specs.Variable.{Variable, variable_cmp}
use Rattle.marker_nodes.specs.Branches.{variable, value_at as pick}
use Rattle.marker_nodes.specs.Node.{Node, markers}
use Rattle.marker_nodes.proofs.VariableLaws.{variable_total, one_variable}
use Rattle.marker_nodes.proofs.SideLaws.{branch_at}
use Rattle.marker_nodes.specs.Side.{branch, HasBranches, IsFrom, IsAt, IsFirst}

eq_is : (r : Ordering) → is_eq r ≡ true → r ≡ Equal
eq_is r h1 = grind arith

less_left : (r : Ordering) → is_eq r ≡ false → is_gt r ≡ false → r ≡ Less
less_left r h1 h2 = grind arith

module _ (nodes : List Node) (store : IsStore markers nodes) (x : Variable) (t : NodeId) where
  -- what is true of the id if it branches on another variable, and of its child if it branches on
  -- x, is true of the branch
  branch_cases : (v : Valuation) (P : NodeId → Type 0) → (((n : Node) → node_of nodes t ≡ Some n → is_eq (variable_cmp x (variable n)) ≡ false) → P t) →
      ((n : Node) → node_of nodes t ≡ Some n → variable_cmp x (variable n) ≡ Equal → P (signed_id (is_negated t) (pick n v))) → P (branch nodes x t v)
  branch_cases v P h1 h2 = grind arith

  pub branch_below : (v : Valuation) → place_of (branch nodes x t v) ≤ place_of t
  branch_below v = branch_cases v (λ u. place_of u ≤ place_of t) (λ h. omega arith) (λ n e f. let h : place_of (pick n v) < place_of t = (store.node (place_of t) n e).below v in omega arith)

  pub branch_under : (v : Valuation) → IsSubtree markers nodes t (branch nodes x t v)
  branch_under v = branch_cases v (IsSubtree markers nodes t) (λ h. itself) (λ n e f. child t (signed_id (is_negated t) (pick n v)) n v itself e refl)

  pub branch_smaller : IsAt nodes x t → (v : Valuation) → place_of (branch nodes x t v) < place_of t
  branch_smaller h1 v = grind (arith, branch_at, tied_itself, variable_total)

  pub branch_means : (v : Valuation) → truth markers nodes t v ≡ truth markers nodes (branch nodes x t v) v
  branch_means v = branch_cases v (λ u. truth markers nodes t v ≡ truth markers nodes u v) (λ h. refl) (λ n e f. truth_child markers nodes t n v (λ i m g. (store.node i m g).below) e)

  pub branch_after : IsFrom nodes x t → (v : Valuation) → IsAfter markers nodes x (branch nodes x t v)
  branch_after from v = branch_cases v (IsAfter markers nodes x)
      (λ h n e. less_left (variable_cmp x (variable n)) (h n e) (from n e))
      (λ n e f. subst (λ y. IsAfter markers nodes y (signed_id (is_negated t) (pick n v))) (sym (one_variable x (variable n) f)) ((store.node (place_of t) n e).after v))

-- the branches of two ids at the first of their variables
module _ (old : List Node) (store : IsStore markers old) (a b : NodeId) (i : IsHeld old a) (j : IsHeld old b) (x : Variable) (first : IsFirst old x a b) where
  pub left_held : (v : Valuation) → IsHeld old (branch old x a v)
  left_held v = let h = branch_below old store x a v in omega arith

  pub right_held : (v : Valuation) → IsHeld old (branch old x b v)
  right_held v = let h = branch_below old store x b v in omega arith

  pub both_smaller : (v : Valuation) → place_of (branch old x a v) + place_of (branch old x b v) < place_of a + place_of b
  both_smaller v = grind (arith, branch_smaller, branch_below)

  -- a pair of their children, under the signs of the ids
  pub pair_below : (v : Valuation) (p : NodeId × NodeId) → HasBranches old x a b v p → IsHeld old p.0 × IsHeld old p.1 × (place_of p.0 + place_of p.1 < place_of a + place_of b)
      × IsSubtree markers old a (signed_id (is_negated a) p.0) × IsSubtree markers old b (signed_id (is_negated b) p.1)
  pair_below v p h1 = grind (arith, left_held, right_held, both_smaller, branch_under)
