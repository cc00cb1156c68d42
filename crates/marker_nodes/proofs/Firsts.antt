-- The conjunctions that need no node.
use Rattle.std.proofs.Common.{◌≡◌, ◌<◌, ◌≤◌, Bool, true, false, not, ◌&&◌, List, Some, None, length, sym, ap, ◌∙◌, subst, arith}
use Rattle.std.specs.declared.cmp.Ordering.TheVariants.{Less}
use Rattle.marker_environment.specs.Valuation.{Valuation}
use Rattle.marker_diagrams.specs.declared.node_id.NodeId.{NodeId}
use Rattle.marker_diagrams.specs.declared.node_id.TheConstants.NodeId.{TRUE, FALSE}
use Rattle.marker_diagrams.specs.Id.{place_of, opposite, same_id}
use Rattle.marker_diagrams.specs.Diagram.{node_at, node_of, IsHeld, truth}
use Rattle.marker_diagrams.proofs.IdLaws.{same_id_is}
use Rattle.marker_diagrams.proofs.NodeLaws.{node_bounds, truth_signed}
use Rattle.marker_nodes.specs.Node.{Node}
use Rattle.marker_nodes.specs.Variable.{Variable, variable_cmp}
use Rattle.marker_nodes.specs.Branches.{variable}
use Rattle.marker_nodes.specs.Node.{markers}
use Rattle.marker_nodes.specs.And.{IsAnd, IsShort}
use Rattle.marker_nodes.proofs.Descents.{end_means}

and_false : (x : Bool) → (x && false) ≡ false
and_false x = grind arith

and_true : (x : Bool) → (x && true) ≡ x
and_true x = grind arith

and_itself : (x : Bool) → (x && x) ≡ x
and_itself x = grind arith

and_not : (x : Bool) → (not x && x) ≡ false
and_not x = grind arith

module _ (nodes : List Node) where
  -- no node has the place of the constants
  pub first_none : None ≡ node_at nodes 0
  first_none = grind (arith, length, node_bounds)

  pub true_is : (v : Valuation) → truth markers nodes TRUE v ≡ true
  true_is v = end_means nodes TRUE v first_none

  pub false_is : (v : Valuation) → truth markers nodes FALSE v ≡ false
  false_is v = ap not (true_is v)

module _ (a b : NodeId) (nodes : List Node) (i : IsHeld nodes a) (j : IsHeld nodes b) where
  false_after : (x : Variable) (n : Node) → node_of nodes FALSE ≡ Some n → variable_cmp x (variable n) ≡ Less
  false_after x n e = let h : (0 < 0) × (0 ≤ length nodes) = node_bounds nodes 0 n e in absurd (omega arith)

  none : ((v : Valuation) → (truth markers nodes a v && truth markers nodes b v) ≡ false) → IsAnd nodes a b FALSE
  none h = record { held = omega arith; means = λ v. false_is nodes v ∙ sym (h v); after = λ x e f. false_after x }

  pub first_false : same_id a FALSE ≡ true → IsAnd nodes a b a
  first_false e = let f = same_id_is a FALSE e in
      subst (IsAnd nodes a b) (sym f) (none (λ v. ap (λ t. truth markers nodes t v && truth markers nodes b v) f ∙ ap (λ z. z && truth markers nodes b v) (false_is nodes v)))

  pub second_false : same_id b FALSE ≡ true → IsAnd nodes a b b
  second_false e = let f = same_id_is b FALSE e in
      subst (IsAnd nodes a b) (sym f)
      (none (λ v. ap (λ t. truth markers nodes a v && truth markers nodes t v) f ∙ ap (λ z. truth markers nodes a v && z) (false_is nodes v) ∙ and_false (truth markers nodes a v)))

  pub opposites : same_id a (opposite b) ≡ true → IsAnd nodes a b FALSE
  opposites h1 = grind (arith, none, same_id_is, truth_signed, and_not)

  pub first_true : same_id a TRUE ≡ true → IsAnd nodes a b b
  first_true e = record {
    held = j;
    means = λ v. sym (ap (λ t. truth markers nodes t v && truth markers nodes b v) (same_id_is a TRUE e) ∙ ap (λ z. z && truth markers nodes b v) (true_is nodes v));
    after = λ x f g. g;
  }

  pub second_true : same_id b TRUE ≡ true → IsAnd nodes a b a
  second_true e = record {
    held = i;
    means = λ v. sym (ap (λ t. truth markers nodes a v && truth markers nodes t v) (same_id_is b TRUE e) ∙ ap (λ z. truth markers nodes a v && z) (true_is nodes v) ∙ and_true (truth markers nodes a v));
    after = λ x f g. f;
  }

  pub same : same_id a b ≡ true → IsAnd nodes a b b
  same h1 = grind arith

-- an id that is not a constant has a node
pub not_constant : (t : NodeId) → same_id t FALSE ≡ false → same_id t TRUE ≡ false → 0 < place_of t
not_constant t h1 h2 = grind arith

-- what begins otherwise
pub not_short : (a b : NodeId) → same_id a FALSE ≡ false → same_id b FALSE ≡ false → same_id a (opposite b) ≡ false → same_id a TRUE ≡ false → same_id b TRUE ≡ false → same_id a b ≡ false → IsShort a b → ⊥
not_short a b h1 h2 h3 h4 h5 h6 h7 = grind arith
