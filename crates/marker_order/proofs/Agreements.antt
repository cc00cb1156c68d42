-- An id means the same in two tables if they are equal up to it.
use Rattle.std.proofs.Common.{◌≡◌, ℕ, zero, suc, ◌+◌, ◌-◌, ◌<◌, ◌≤◌, Bool, true, false, not, List, length, Option, Some, None, refl, sym, ap, ◌∙◌, subst, arith, below_more, replicate}
use Rattle.std.specs.declared.cmp.Ordering.TheVariants.{Equal}
use Rattle.marker_environment.specs.Valuation.{Valuation}
use Rattle.marker_diagrams.specs.declared.node_id.NodeId.{NodeId}
use Rattle.marker_diagrams.specs.Id.{index_of, is_negated, place_of, same_id, signed}
use Rattle.marker_diagrams.specs.declared.node_id.TheConstants.NodeId.{FALSE}
use Rattle.marker_diagrams.specs.Diagram.{IsStore, node_at, truth, truth_at}
use Rattle.std.proofs.lemmas.List.Elements.{All-replicate}
use Rattle.marker_diagrams.proofs.IdLaws.{same_id_is}
use Rattle.marker_diagrams.proofs.Canonicity.{descends}
use Rattle.marker_diagrams.proofs.NodeLaws.{node_bounds, truth_first, truth_node}
use Rattle.marker_nodes.specs.Branches.{value_at}
use Rattle.marker_nodes.specs.Node.{Node, markers}
use Rattle.marker_nodes.proofs.NodeLaws.{lawful}
use Rattle.marker_order.specs.Agreement.{AgreeAt, AgreeUpTo, AreEqual, IsEqual}
use Rattle.marker_order.specs.Order.{diagram_cmp}
use Rattle.marker_order.proofs.TruthLaws.{mean_tied}
use Rattle.marker_order.proofs.TurnLaws.{on_constants}

module _ (a b : List Node) (rules : IsStore markers a) (other_rules : IsStore markers b) (agreed : ℕ) (agree : AgreeUpTo a b agreed) where
  same_below : (k i : ℕ) → i < k → i ≤ agreed → (v : Valuation) → truth_at markers a i v ≡ truth_at markers b i v
  same_below zero i l h v = absurd (omega arith)
  same_below (suc k) zero l h v = truth_first markers a v (descends markers lawful a rules) ∙ sym (truth_first markers b v (descends markers lawful b other_rules))
  same_below (suc k) (suc i) l h v =
      let q = agree i (omega arith) in
      let n = q.left in
      let m = q.right in
      let below : place_of (value_at n v) < i + 1 = (rules.node (i + 1) n q.stands).below v in
      subst (λ j. truth_at markers a j v ≡ truth_at markers b j v) (let e : i + 1 ≡ suc i = omega arith in e)
      (truth_node markers a (i + 1) n v (descends markers lawful a rules) q.stands
      ∙ ap (signed (is_negated (value_at n v))) (same_below k (place_of (value_at n v)) (omega arith) (omega arith) v)
      ∙ ap (λ c. truth markers b c v) (q.same.pick v)
      ∙ sym (truth_node markers b (i + 1) m v (descends markers lawful b other_rules) q.stands_too))

  -- so it ties with itself
  pub passed_over : (t : NodeId) (index : ℕ) → place_of t ≡ index + 1 → index < agreed → diagram_cmp (a, t) (b, t) ≡ Equal
  passed_over t index e h =
      let q = agree index h in
      let l : index + 1 ≤ length a = (node_bounds a (index + 1) q.left q.stands).1 in
      let r : index + 1 ≤ length b = (node_bounds b (index + 1) q.right q.stands_too).1 in
      mean_tied a b rules other_rules t t (omega arith) (omega arith) (λ v. ap (signed (is_negated t)) (same_below (suc (place_of t)) (place_of t) (omega arith) (omega arith) v))

not_false : (x : Bool) → not x ≡ false → x ≡ true
not_false x h1 = grind arith

index_place : (t : NodeId) (i : ℕ) → index_of t ≡ Some i → place_of t ≡ i + 1
index_place t i h1 = grind arith

-- two ids that are equal by `==`
pub passed_over_by : (a b : List Node) → IsStore markers a → IsStore markers b → (agreed : ℕ) → AgreeUpTo a b agreed → (s t : NodeId) (differ : Bool) → differ ≡ not (same_id s t) → differ ≡ false →
    (o : Option ℕ) (index : ℕ) → o ≡ index_of s → o ≡ Some index → index < agreed → diagram_cmp (a, s) (b, t) ≡ Equal
passed_over_by a b rules other_rules agreed agree s t differ e f o index g h l =
    ap (λ u. diagram_cmp (a, s) (b, u)) (sym (same_id_is s t (not_false (same_id s t) (sym e ∙ f)))) ∙ passed_over a b rules other_rules agreed agree s index (index_place s index (sym g ∙ h)) l

-- one more node that agrees
pub agree_more : (a b : List Node) (agreed : ℕ) → AgreeUpTo a b agreed → AgreeAt a b agreed → AgreeUpTo a b (agreed + 1)
agree_more a b agreed h k = below_more _ _ h k

-- at first no node is known to agree
pub agree_none : (a b : List Node) → AgreeUpTo a b 0
agree_none a b i h = absurd (omega arith)

no_node : (nodes : List Node) (found : Option Node) → node_at nodes 0 ≡ found → node_at nodes 0 ≡ None
no_node nodes found h1 = grind (arith, node_bounds)

-- at first each remembered pair is of FALSE only
pub falsehoods_are_equal : (a b : List Node) → IsStore markers a → IsStore markers b → (n : ℕ) → AreEqual a b (replicate n (FALSE, FALSE))
falsehoods_are_equal a b left right n = All-replicate (IsEqual a b) n (FALSE, FALSE) (on_constants a b left right FALSE FALSE (no_node a (node_at a 0) refl) (no_node b (node_at b 0) refl))
