-- Ids of two stores mean the same exactly if their diagrams are alike.
use Rattle.std.proofs.Common.{◌≡◌, ◌≢◌, ℕ, zero, suc, ◌<◌, Bool, true, List, Option, Some, None, refl, sym, ap, ◌∙◌, arith}
use Rattle.std.specs.Ordering.{ordering_reverse}
use Rattle.std.specs.declared.cmp.Ordering.{Ordering}
use Rattle.std.specs.declared.cmp.Ordering.TheVariants.{Less, Equal, Greater}
use Rattle.std.proofs.lemmas.Cmp.{tied_itself}
use Rattle.marker_diagrams.specs.declared.node_id.NodeId.{NodeId}
use Rattle.marker_diagrams.specs.Id.{signed, place_of, is_negated, signed_id}
use Rattle.marker_diagrams.specs.Diagram.{NodeKind, node_of, IsHeld, truth, IsAfter, with_variable, IsLawful, IsStore}
use Rattle.marker_diagrams.proofs.IdLaws.{not_itself, signed_id_back}
use Rattle.marker_diagrams.proofs.NodeLaws.{same_some, none_some, truth_free, truth_child}
use Rattle.marker_diagrams.proofs.Canonicity.{descends, unseen, child_seen, apart}

-- two ids, each of a store of its own, are the same constant, or branch on the same variable and
-- have alike children
pub data Alike {N X V : Type 0} (kind : NodeKind N X V) (a b : List N) : NodeId → NodeId → Type 0 where
  constants : {s t : NodeId} → node_of a s ≡ None → node_of b t ≡ None → is_negated s ≡ is_negated t → Alike kind a b s t
  nodes : {s t : NodeId} {n m : N} → node_of a s ≡ Some n → node_of b t ≡ Some m → kind.cmp (kind.variable n) (kind.variable m) ≡ Equal →
      ((v : V) → Alike kind a b (signed_id (is_negated s) (kind.pick n v)) (signed_id (is_negated t) (kind.pick m v))) → Alike kind a b s t

same_sign : (s t : Bool) → signed s true ≡ signed t true → s ≡ t
same_sign s t h1 = grind arith

pub turned : {N X V : Type 0} (kind : NodeKind N X V) (laws : IsLawful kind) (a b : List N) (s t : NodeId) → Alike kind a b s t → Alike kind b a t s
turned kind laws a b s t (constants e f g) = constants f e (sym g)
turned kind laws a b s t (nodes {n = n} {m = m} e f g h) =
    nodes f e (laws.total.antisymm (kind.variable m) (kind.variable n) ∙ ap ordering_reverse g) (λ v. turned kind laws a b (signed_id (is_negated s) (kind.pick n v)) (signed_id (is_negated t) (kind.pick m v)) (h v))

module _ {N X V : Type 0} (kind : NodeKind N X V) (laws : IsLawful kind) (a b : List N) (store_a : IsStore kind a) (store_b : IsStore kind b) where
  -- an id that means the same as another does not depend on a variable before that one's
  not_before : (s t : NodeId) (n : N) → IsHeld a s → node_of a s ≡ Some n → IsAfter kind b (kind.variable n) t → ((v : V) → truth kind a s v ≡ truth kind b t v) → ⊥
  not_before s t n i e h same = by_children (laws.proper n (store_a.node (place_of s) n e).reduced)
    where
      seen : (v u : V) → truth kind a (signed_id (is_negated s) (kind.pick n v)) u ≡ truth kind b t u
      seen v u =
          sym (child_seen kind laws a store_a s n (kind.variable n) v u e (tied_itself laws.total (kind.variable n)))
          ∙ same (with_variable kind (kind.variable n) v u) ∙ unseen kind laws b store_b t (kind.variable n) v u h

      by_children : ((v : V) × (w : V) × (kind.pick n v ≢ kind.pick n w)) → ⊥
      by_children p =
          let l = (store_a.node (place_of s) n e).below p.0 in
          let m = (store_a.node (place_of s) n e).below p.1 in
          let k = apart kind laws a store_a (signed_id (is_negated s) (kind.pick n p.0)) (signed_id (is_negated s) (kind.pick n p.1)) (omega arith) (omega arith) (λ f. p.2 (signed_id_back (is_negated s) (kind.pick n p.0) (kind.pick n p.1) f)) in
          not_itself _ (seen p.1 k.0 ∙ sym (seen p.0 k.0) ∙ k.1)

module _ {N X V : Type 0} (kind : NodeKind N X V) (laws : IsLawful kind) (a b : List N) (store_a : IsStore kind a) (store_b : IsStore kind b) where
  by_nodes : (s t : NodeId) → IsHeld a s → IsHeld b t → ((v : V) → truth kind a s v ≡ truth kind b t v) →
      ((c d : NodeId) → place_of c < place_of s → place_of d < place_of t → ((v : V) → truth kind a c v ≡ truth kind b d v) → Alike kind a b c d) →
      (o p : Option N) → node_of a s ≡ o → node_of b t ≡ p → Alike kind a b s t
  by_nodes s t i j same ih None None e f =
      constants e f
      (same_sign (is_negated s) (is_negated t) (ap (signed (is_negated s)) (sym (truth_free kind a (place_of s) kind.lowest e)) ∙ same kind.lowest ∙ ap (signed (is_negated t)) (truth_free kind b (place_of t) kind.lowest f)))
  by_nodes s t i j same ih (Some n) None e f = absurd (not_before kind laws a b store_a store_b s t n i e (λ m g. none_some m (sym f ∙ g)) same)
  by_nodes s t i j same ih None (Some m) e f = absurd (not_before kind laws b a store_b store_a t s m j f (λ n g. none_some n (sym e ∙ g)) (λ v. sym (same v)))
  by_nodes s t i j same ih (Some n) (Some m) e f = by_order (kind.cmp (kind.variable n) (kind.variable m)) refl
    where
      by_order : (r : Ordering) → kind.cmp (kind.variable n) (kind.variable m) ≡ r → Alike kind a b s t
      by_order Less h = absurd (not_before kind laws a b store_a store_b s t n i e (λ x g. ap (λ y. kind.cmp (kind.variable n) (kind.variable y)) (same_some x m (sym g ∙ f)) ∙ h) same)
      by_order Greater h =
          absurd
          (not_before kind laws b a store_b store_a t s m j f (λ x g. ap (λ y. kind.cmp (kind.variable m) (kind.variable y)) (same_some x n (sym g ∙ e)) ∙ laws.total.antisymm (kind.variable m) (kind.variable n) ∙ ap ordering_reverse h)
          (λ v. sym (same v)))
      by_order Equal h =
          nodes e f h
          (λ v. ih (signed_id (is_negated s) (kind.pick n v)) (signed_id (is_negated t) (kind.pick m v)) ((store_a.node (place_of s) n e).below v) ((store_b.node (place_of t) m f).below v)
          (λ u. sym (child_seen kind laws a store_a s n (kind.variable n) v u e (tied_itself laws.total (kind.variable n))) ∙ same (with_variable kind (kind.variable n) v u) ∙ child_seen kind laws b store_b t m (kind.variable n) v u f h))

  alike_below : (k : ℕ) (s t : NodeId) → place_of s < k → IsHeld a s → IsHeld b t → ((v : V) → truth kind a s v ≡ truth kind b t v) → Alike kind a b s t
  alike_below zero s t l i j same = absurd (omega arith)
  alike_below (suc k) s t l i j same = by_nodes s t i j same (λ c d x y. alike_below k c d (omega arith) (omega arith) (omega arith)) (node_of a s) (node_of b t) refl refl

  -- ids that mean the same are alike
  pub same_alike : (s t : NodeId) → IsHeld a s → IsHeld b t → ((v : V) → truth kind a s v ≡ truth kind b t v) → Alike kind a b s t
  same_alike s t i j same = alike_below (suc (place_of s)) s t (omega arith) i j same

  -- and ids that are alike mean the same
  pub alike_same : (s t : NodeId) → IsHeld a s → IsHeld b t → Alike kind a b s t → (v : V) → truth kind a s v ≡ truth kind b t v
  alike_same s t i j (constants e f g) v = ap (signed (is_negated s)) (truth_free kind a (place_of s) v e) ∙ ap (λ x. signed x true) g ∙ ap (signed (is_negated t)) (sym (truth_free kind b (place_of t) v f))
  alike_same s t i j (nodes {n = n} {m = m} e f g h) v =
      let l = (store_a.node (place_of s) n e).below v in
      let r = (store_b.node (place_of t) m f).below v in
      truth_child kind a s n v (descends kind laws a store_a) e ∙ alike_same (signed_id (is_negated s) (kind.pick n v)) (signed_id (is_negated t) (kind.pick m v)) (omega arith) (omega arith) (h v) v
      ∙ sym (truth_child kind b t m v (descends kind laws b store_b) f)
