-- A truth depends on a variable exactly where a subtree's node asks about it.
use Rattle.std.proofs.Common.{◌≡◌, ◌≢◌, Bool, true, false, cond, List, Option, Some, None, refl, sym, ap, ◌∙◌, arith}
use Rattle.std.specs.Ordering.{is_eq, is_lt, ordering_reverse}
use Rattle.std.specs.declared.cmp.Ordering.{Ordering}
use Rattle.std.specs.declared.cmp.Ordering.TheVariants.{Less, Equal, Greater}
use Rattle.std.proofs.lemmas.Bool.{true≢false}
use Rattle.marker_diagrams.specs.declared.node_id.NodeId.{NodeId}
use Rattle.marker_diagrams.specs.Id.{signed, place_of, is_negated}
use Rattle.marker_diagrams.specs.Diagram.{NodeKind, node_of, IsHeld, truth, with_variable, IsLawful, IsStore}
use Rattle.marker_diagrams.specs.Residue.{IsSubtree, hold, DependsOn}
use Rattle.marker_diagrams.proofs.NodeLaws.{none_some, truth_alike, keeps_itself}
use Rattle.marker_diagrams.proofs.Canonicity.{descends, unseen}
use Rattle.marker_diagrams.proofs.ResidueLaws.{before, subtree_kept, is_residue, each_residue, depends, sees_none_before}

equal_is : (r : Ordering) → is_eq r ≡ true → r ≡ Equal
equal_is r h1 = grind arith

-- two choices of which at most one is made
either_first : {A : Type 0} (b e : Bool) (p q r : A) → (e ≡ true → b ≡ false) → cond b p (cond e q r) ≡ cond e q (cond b p r)
either_first b e p q r h1 = grind arith

-- a choice that is made already
held_before : {A : Type 0} (b e : Bool) (q r : A) → (e ≡ true → b ≡ false) → cond b r (cond e q r) ≡ cond e q r
held_before b e q r h1 = grind arith

same_choice : {A : Type 0} (b : Bool) (r : A) → cond b r r ≡ r
same_choice b r = grind arith

first_choice : {A : Type 0} (b e : Bool) (p q r : A) → (e ≡ true → b ≡ true) → cond b p (cond e q r) ≡ cond b p r
first_choice b e p q r h1 = grind arith

module _ {N X V : Type 0} (kind : NodeKind N X V) (laws : IsLawful kind) (nodes : List N) (store : IsStore kind nodes) where
  -- equal variables come before the same ones
  tied_before : (x y z : X) → is_eq (kind.cmp x y) ≡ true → before kind laws x z ≡ before kind laws y z
  tied_before x y z e = ap is_lt (laws.total.congr x y z (equal_is (kind.cmp x y) e))

  -- a valuation where both the variables before one are held and a later one is set
  held_and_set : (t : NodeId) (at x : X) (held v w : V) → before kind laws x at ≡ false →
      truth kind nodes t (hold kind at held (with_variable kind x v w)) ≡ truth kind nodes t (with_variable kind x v (hold kind at held w))
  held_and_set t at x held v w from = ap (signed (is_negated t)) (truth_alike kind nodes (place_of t) (hold kind at held (with_variable kind x v w)) (with_variable kind x v (hold kind at held w)) picks)
    where
      picks : (m : N) → kind.pick m (hold kind at held (with_variable kind x v w)) ≡ kind.pick m (with_variable kind x v (hold kind at held w))
      picks m =
          laws.own m (λ y. is_lt (kind.cmp y at)) held (with_variable kind x v w)
          ∙ ap (cond (before kind laws (kind.variable m) at) (kind.pick m held)) (laws.own m (λ y. is_eq (kind.cmp x y)) v w)
          ∙ either_first (before kind laws (kind.variable m) at) (is_eq (kind.cmp x (kind.variable m))) (kind.pick m held) (kind.pick m v) (kind.pick m w) (λ e. sym (tied_before x (kind.variable m) at e) ∙ from)
          ∙ sym (ap (cond (is_eq (kind.cmp x (kind.variable m))) (kind.pick m v)) (laws.own m (λ y. is_lt (kind.cmp y at)) held w))
          ∙ sym (laws.own m (λ y. is_eq (kind.cmp x y)) v (hold kind at held w))

  -- the truth depends on what a subtree's node asks about
  pub asked_depends : (t s : NodeId) (n : N) → IsHeld nodes t → IsSubtree kind nodes t s → node_of nodes s ≡ Some n → DependsOn kind (truth kind nodes t) (kind.variable n)
  asked_depends t s n i h e =
      let stands : IsHeld nodes s = (subtree_kept kind nodes nodes t s (keeps_itself kind nodes) (descends kind laws nodes store) i h).1 in
      let d = depends kind laws nodes store s n stands e in
      let r = is_residue kind laws nodes store t s h in
      let x : X = kind.variable n in
      (d.0, hold kind r.at r.held d.1, λ f. d.2 (r.means (with_variable kind x d.0 d.1) ∙ held_and_set t r.at x r.held d.0 d.1 (r.from n e) ∙ f ∙ sym (r.means d.1)))

  pub record Asks (t : NodeId) (x : X) : Type 0 where
    pub subtree : NodeId
    pub node : N
    pub under : IsSubtree kind nodes t subtree
    pub has : node_of nodes subtree ≡ Some node
    pub asks : kind.cmp x (kind.variable node) ≡ Equal

  -- what is set is not before itself
  set_after : (t : NodeId) (x : X) (v w : V) → truth kind nodes t (hold kind x w (with_variable kind x v w)) ≡ truth kind nodes t (with_variable kind x v w)
  set_after t x v w = grind (arith, truth_alike, before, equal_is, cond, held_before)

  held_itself : (t : NodeId) (x : X) (w : V) → truth kind nodes t (hold kind x w w) ≡ truth kind nodes t w
  held_itself t x w = ap (signed (is_negated t)) (truth_alike kind nodes (place_of t) (hold kind x w w) w (λ m. laws.own m (λ y. is_lt (kind.cmp y x)) w w ∙ same_choice (before kind laws (kind.variable m) x) (kind.pick m w)))

  -- what is set before x does not show where the variables before x are held
  set_before : (t : NodeId) (x y : X) (s v w : V) → before kind laws y x ≡ true → truth kind nodes t (hold kind x s (with_variable kind y v w)) ≡ truth kind nodes t (hold kind x s w)
  set_before t x y s v w k = ap (signed (is_negated t)) (truth_alike kind nodes (place_of t) (hold kind x s (with_variable kind y v w)) (hold kind x s w) picks)
    where
      picks : (m : N) → kind.pick m (hold kind x s (with_variable kind y v w)) ≡ kind.pick m (hold kind x s w)
      picks m =
          laws.own m (λ z. is_lt (kind.cmp z x)) s (with_variable kind y v w)
          ∙ ap (cond (before kind laws (kind.variable m) x) (kind.pick m s)) (laws.own m (λ z. is_eq (kind.cmp y z)) v w)
          ∙ first_choice (before kind laws (kind.variable m) x) (is_eq (kind.cmp y (kind.variable m))) (kind.pick m s) (kind.pick m v) (kind.pick m w) (λ e. sym (tied_before y (kind.variable m) x e) ∙ k)
          ∙ sym (laws.own m (λ z. is_lt (kind.cmp z x)) s w)

  -- what a truth depends on is asked about by a subtree's node
  pub depends_asked : (t : NodeId) (x : X) → IsHeld nodes t → DependsOn kind (truth kind nodes t) x → Asks t x
  depends_asked t x i d =
      let r = each_residue kind laws nodes store t x d.1 in
      by_node r.0 r.1 r.2 (seen r.0 r.2) (node_of nodes r.0) refl
    where
      seen : (u : NodeId) → ((y : V) → truth kind nodes u y ≡ truth kind nodes t (hold kind x d.1 y)) → DependsOn kind (truth kind nodes u) x
      seen u means = (d.0, d.1, λ f. d.2 (sym (set_after t x d.0 d.1) ∙ sym (means (with_variable kind x d.0 d.1)) ∙ f ∙ means d.1 ∙ held_itself t x d.1))

      by_node : (u : NodeId) → IsSubtree kind nodes t u → ((y : V) → truth kind nodes u y ≡ truth kind nodes t (hold kind x d.1 y)) → DependsOn kind (truth kind nodes u) x
          → (o : Option N) → node_of nodes u ≡ o → Asks t x
      by_node u h means k None e = absurd (k.2 (unseen kind laws nodes store u x k.0 k.1 (λ m f. absurd (none_some m (sym e ∙ f)))))
      by_node u h means k (Some n) e = record {
        subtree = u;
        node = n;
        under = h;
        has = e;
        asks = by_order (kind.cmp x (kind.variable n)) refl;
      }
        where
          stands : IsHeld nodes u
          stands = (subtree_kept kind nodes nodes t u (keeps_itself kind nodes) (descends kind laws nodes store) i h).1

          not_after : before kind laws (kind.variable n) x ≡ true → ⊥
          not_after b =
              let q = depends kind laws nodes store u n stands e in
              q.2 (means (with_variable kind (kind.variable n) q.0 q.1) ∙ set_before t x (kind.variable n) d.1 q.0 q.1 b ∙ sym (means q.1))

          by_order : (r : Ordering) → kind.cmp x (kind.variable n) ≡ r → kind.cmp x (kind.variable n) ≡ Equal
          by_order Less f = absurd (true≢false (sym (ap is_lt f) ∙ sees_none_before kind laws nodes store u n x e k))
          by_order Equal f = f
          by_order Greater f = absurd (not_after (ap is_lt (laws.total.antisymm (kind.variable n) x ∙ ap ordering_reverse f)))
