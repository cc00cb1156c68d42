-- Two ids of one store are equal, or differ at some valuation.
use Rattle.std.proofs.Common.{◌≡◌, ◌≢◌, ℕ, zero, suc, ◌+◌, ◌<◌, Bool, true, not, cond, List, Option, Some, None, ◌⊎◌, inl, inr, refl, sym, ap, ◌∙◌, arith}
use Rattle.std.specs.Ordering.{is_eq, ordering_reverse}
use Rattle.std.specs.declared.cmp.Ordering.{Ordering}
use Rattle.std.specs.declared.cmp.Ordering.TheVariants.{Less, Equal, Greater}
use Rattle.std.proofs.lemmas.Cmp.{tied_itself}
use Rattle.marker_diagrams.specs.declared.node_id.NodeId.{NodeId}
use Rattle.marker_diagrams.specs.declared.node_id.TheConstants.NodeId.{FALSE}
use Rattle.marker_diagrams.specs.Id.{signed, place_of, is_negated, signed_id}
use Rattle.marker_diagrams.specs.Diagram.{NodeKind, node_at, node_of, IsHeld, truth_at, truth, Separated, IsAfter, with_variable, AreSame, IsLawful, IsStore}
use Rattle.marker_diagrams.proofs.IdLaws.{signed_plain, not_itself, one_id, signed_id_back}
use Rattle.marker_diagrams.proofs.NodeLaws.{same_some, none_some, terminal, truth_free, truth_first, truth_node, truth_child}

-- the truth under two signs
opposite_truths : (a b : Bool) → a ≢ b → signed a true ≡ not (signed b true)
opposite_truths a b h1 = grind arith

one_sign : (a b : Bool) → (a ≡ b) ⊎ (a ≢ b)
one_sign a b = grind arith

-- ids are the same or not
pub one_or_other : (a b : NodeId) → (a ≡ b) ⊎ (a ≢ b)
one_or_other a b = grind arith

module _ {N X V : Type 0} (kind : NodeKind N X V) (laws : IsLawful kind) (nodes : List N) (store : IsStore kind nodes) where
  pub descends : (i : ℕ) (n : N) → node_at nodes i ≡ Some n → (v : V) → place_of (kind.pick n v) < i
  descends i n e = (store.node i n e).below

  -- a valuation at which two ids differ
  abbrev pub Apart : NodeId → NodeId → Type 0
  Apart a b = (v : V) × (truth kind nodes a v ≡ not (truth kind nodes b v))

  turn : (a b : NodeId) → Apart a b → Apart b a
  turn a b h1 = grind arith

  -- a node on the variable x picks by v, one on a later variable by w
  pub pick_at : (n : N) (x : X) (v w : V) → kind.cmp x (kind.variable n) ≡ Equal → kind.pick n (with_variable kind x v w) ≡ kind.pick n v
  pick_at n x v w h = laws.own n (λ y. is_eq (kind.cmp x y)) v w ∙ ap (λ r. cond (is_eq r) (kind.pick n v) (kind.pick n w)) h

  pub pick_after : (n : N) (x : X) (v w : V) → kind.cmp x (kind.variable n) ≡ Less → kind.pick n (with_variable kind x v w) ≡ kind.pick n w
  pick_after n x v w h = laws.own n (λ y. is_eq (kind.cmp x y)) v w ∙ ap (λ r. cond (is_eq r) (kind.pick n v) (kind.pick n w)) h

  after_pick : (x : X) (n : N) (v : V) (i : ℕ) → node_at nodes i ≡ Some n → kind.cmp x (kind.variable n) ≡ Less → IsAfter kind nodes x (kind.pick n v)
  after_pick x n v i e h m f = laws.total.trans x (kind.variable n) (kind.variable m) h ((store.node i n e).after v m f)

  unseen_by : (i : ℕ) (x : X) (v w : V) → ((t : NodeId) → place_of t < i → IsAfter kind nodes x t → truth kind nodes t (with_variable kind x v w) ≡ truth kind nodes t w) →
      ((n : N) → node_at nodes i ≡ Some n → kind.cmp x (kind.variable n) ≡ Less) → (o : Option N) → node_at nodes i ≡ o →
      truth_at kind nodes i (with_variable kind x v w) ≡ truth_at kind nodes i w
  unseen_by i x v w ih h None e = truth_free kind nodes i (with_variable kind x v w) e ∙ sym (truth_free kind nodes i w e)
  unseen_by i x v w ih h (Some n) e =
      truth_node kind nodes i n (with_variable kind x v w) descends e
      ∙ ap (λ c. truth kind nodes c (with_variable kind x v w)) (pick_after n x v w (h n e))
      ∙ ih (kind.pick n w) ((store.node i n e).below w) (after_pick x n w i e (h n e))
      ∙ sym (truth_node kind nodes i n w descends e)

  unseen_below : (k : ℕ) (t : NodeId) (x : X) (v w : V) → place_of t < k → IsAfter kind nodes x t → truth kind nodes t (with_variable kind x v w) ≡ truth kind nodes t w
  unseen_below zero t x v w l h = absurd (omega arith)
  unseen_below (suc k) t x v w l h =
      ap (signed (is_negated t)) (unseen_by (place_of t) x v w (λ c j. unseen_below k c x v w (omega arith)) h (node_of nodes t) refl)

  -- an id does not see a variable before its own
  pub unseen : (t : NodeId) (x : X) (v w : V) → IsAfter kind nodes x t → truth kind nodes t (with_variable kind x v w) ≡ truth kind nodes t w
  unseen t x v w h = unseen_below (suc (place_of t)) t x v w (omega arith) h

  -- the child of an id that a valuation selects
  abbrev child_of : NodeId → N → V → NodeId
  child_of a n v = signed_id (is_negated a) (kind.pick n v)

  -- an id, with v at its variable, is the child for v
  pub child_seen : (a : NodeId) (n : N) (x : X) (v w : V) → node_of nodes a ≡ Some n → kind.cmp x (kind.variable n) ≡ Equal →
      truth kind nodes a (with_variable kind x v w) ≡ truth kind nodes (child_of a n v) w
  child_seen a n x v w e h =
      truth_child kind nodes a n (with_variable kind x v w) descends e
      ∙ ap (λ c. truth kind nodes (signed_id (is_negated a) c) (with_variable kind x v w)) (pick_at n x v w h)
      ∙ unseen (child_of a n v) x v w (λ m g. laws.total.congr x (kind.variable n) (kind.variable m) h ∙ (store.node (place_of a) n e).after v m g)

  first_at : (a b : NodeId) (n : N) (v : V) → node_of nodes a ≡ Some n → IsAfter kind nodes (kind.variable n) b → Apart (child_of a n v) b → Apart a b
  first_at a b n v e h d =
      (with_variable kind (kind.variable n) v d.0, child_seen a n (kind.variable n) v d.0 e (tied_itself laws.total (kind.variable n)) ∙ d.1 ∙ ap not (sym (unseen b (kind.variable n) v d.0 h)))

  -- the variable of the first comes before the second: one of two children differs from the second
  first_side : (a b : NodeId) (n : N) → node_of nodes a ≡ Some n → IsAfter kind nodes (kind.variable n) b → ((c : NodeId) → place_of c < place_of a → c ≢ b → Apart c b) → Apart a b
  first_side a b n e h ih =
      let p = laws.proper n (store.node (place_of a) n e).reduced in
      by_test p.0 p.1 p.2 (one_or_other (child_of a n p.0) b)
    where
      by_test : (v w : V) → kind.pick n v ≢ kind.pick n w → (child_of a n v ≡ b) ⊎ (child_of a n v ≢ b) → Apart a b
      by_test v w d (inr f) = first_at a b n v e h (ih (child_of a n v) ((store.node (place_of a) n e).below v) f)
      by_test v w d (inl f) =
          first_at a b n w e h (ih (child_of a n w) ((store.node (place_of a) n e).below w) (λ k. d (signed_id_back (is_negated a) (kind.pick n v) (kind.pick n w) (f ∙ sym k))))

  -- both branch on one variable
  both_at : (a b : NodeId) (n m : N) (v : V) → node_of nodes a ≡ Some n → node_of nodes b ≡ Some m → kind.cmp (kind.variable n) (kind.variable m) ≡ Equal →
      Apart (child_of a n v) (child_of b m v) → Apart a b
  both_at a b n m v e f h d = (
    with_variable kind (kind.variable n) v d.0,
    child_seen a n (kind.variable n) v d.0 e (tied_itself laws.total (kind.variable n)) ∙ d.1 ∙ ap not (sym (child_seen b m (kind.variable n) v d.0 f h)),
  )

  both_side : (a b : NodeId) (n m : N) → node_of nodes a ≡ Some n → node_of nodes b ≡ Some m → kind.cmp (kind.variable n) (kind.variable m) ≡ Equal → a ≢ b →
      ((c d : NodeId) → place_of c < place_of a → place_of d < place_of b → c ≢ d → Apart c d) → Apart a b
  both_side a b n m e f h d ih = by_sign (one_sign (is_negated a) (is_negated b))
    where
      child_apart : (v : V) → child_of a n v ≢ child_of b m v → Apart a b
      child_apart v k = both_at a b n m v e f h (ih (child_of a n v) (child_of b m v) ((store.node (place_of a) n e).below v) ((store.node (place_of b) m f).below v) k)

      by_node : AreSame kind n m ⊎ ((v : V) × (kind.pick n v ≢ kind.pick m v)) → is_negated a ≡ is_negated b → Apart a b
      by_node (inl g) s = absurd (d (one_id a b (store.unique (place_of a) (place_of b) n m e f g) s))
      by_node (inr p) s = child_apart p.0 (λ k. p.1 (signed_id_back (is_negated a) (kind.pick n p.0) (kind.pick m p.0) (k ∙ ap (λ z. signed_id z (kind.pick m p.0)) (sym s))))

      by_sign : (is_negated a ≡ is_negated b) ⊎ (is_negated a ≢ is_negated b) → Apart a b
      by_sign (inl s) = by_node (laws.told n m (store.node (place_of a) n e).reduced (store.node (place_of b) m f).reduced h) s
      by_sign (inr s) =
          child_apart kind.lowest
          (λ k. s (sym (signed_plain (is_negated a) (is_negated (kind.pick n kind.lowest)) ((store.node (place_of a) n e).plain)) ∙ ap is_negated k
          ∙ signed_plain (is_negated b) (is_negated (kind.pick m kind.lowest)) ((store.node (place_of b) m f).plain)))

  compare : (a b : NodeId) → IsHeld nodes a → IsHeld nodes b → a ≢ b →
      ((c d : NodeId) → place_of c + place_of d < place_of a + place_of b → IsHeld nodes c → IsHeld nodes d → c ≢ d → Apart c d) →
      (o p : Option N) → node_of nodes a ≡ o → node_of nodes b ≡ p → Apart a b
  compare a b i j d ih None None e f = (
    kind.lowest,
    ap (signed (is_negated a)) (truth_free kind nodes (place_of a) kind.lowest e)
        ∙ opposite_truths (is_negated a) (is_negated b) (λ s. d (one_id a b (terminal nodes (place_of a) i e ∙ sym (terminal nodes (place_of b) j f)) s))
        ∙ ap (λ x. not (signed (is_negated b) x)) (sym (truth_free kind nodes (place_of b) kind.lowest f)),
  )
  compare a b i j d ih (Some n) None e f = first_side a b n e (λ m g. none_some m (sym f ∙ g)) (λ c l s. ih c b (omega arith) (omega arith) j s)
  compare a b i j d ih None (Some m) e f = turn b a (first_side b a m f (λ n g. none_some n (sym e ∙ g)) (λ c l s. turn a c (ih a c (omega arith) i (omega arith) (λ k. s (sym k)))))
  compare a b i j d ih (Some n) (Some m) e f = by_order (kind.cmp (kind.variable n) (kind.variable m)) refl
    where
      by_order : (r : Ordering) → kind.cmp (kind.variable n) (kind.variable m) ≡ r → Apart a b
      by_order Less h = first_side a b n e (λ x g. ap (λ y. kind.cmp (kind.variable n) (kind.variable y)) (same_some x m (sym g ∙ f)) ∙ h) (λ c l s. ih c b (omega arith) (omega arith) j s)
      by_order Equal h = both_side a b n m e f h d (λ c x l k s. ih c x (omega arith) (omega arith) (omega arith) s)
      by_order Greater h =
          turn b a
          (first_side b a m f (λ x g. ap (λ y. kind.cmp (kind.variable m) (kind.variable y)) (same_some x n (sym g ∙ e)) ∙ laws.total.antisymm (kind.variable m) (kind.variable n) ∙ ap ordering_reverse h)
          (λ c l s. turn a c (ih a c (omega arith) i (omega arith) (λ k. s (sym k)))))

  apart_below : (k : ℕ) (a b : NodeId) → place_of a + place_of b < k → IsHeld nodes a → IsHeld nodes b → a ≢ b → Apart a b
  apart_below zero a b l i j d = absurd (omega arith)
  apart_below (suc k) a b l i j d = compare a b i j d (λ c x h. apart_below k c x (omega arith)) (node_of nodes a) (node_of nodes b) refl refl

  -- ids that are not equal differ at some valuation
  pub apart : (a b : NodeId) → IsHeld nodes a → IsHeld nodes b → a ≢ b → Apart a b
  apart a b i j d = apart_below (suc (place_of a + place_of b)) a b (omega arith) i j d

  pub separated : (a b : NodeId) → IsHeld nodes a → IsHeld nodes b → a ≢ b → Separated kind nodes a b
  separated a b i j d = let p = apart a b i j d in (p.0, λ k. not_itself _ (sym k ∙ p.1))

  -- two ids are equal, or differ at some valuation
  pub same_or_separated : (a b : NodeId) → IsHeld nodes a → IsHeld nodes b → (a ≡ b) ⊎ Separated kind nodes a b
  same_or_separated a b i j = by_cases (one_or_other a b)
    where
      by_cases : (a ≡ b) ⊎ (a ≢ b) → (a ≡ b) ⊎ Separated kind nodes a b
      by_cases (inl e) = inl e
      by_cases (inr d) = inr (separated a b i j d)

  -- ids that mean the same are the same
  pub one_truth : (a b : NodeId) → IsHeld nodes a → IsHeld nodes b → ((v : V) → truth kind nodes a v ≡ truth kind nodes b v) → a ≡ b
  one_truth a b i j h = by_cases (same_or_separated a b i j)
    where
      by_cases : (a ≡ b) ⊎ Separated kind nodes a b → a ≡ b
      by_cases (inl e) = e
      by_cases (inr d) = absurd (d.1 (h d.0))

  -- an id that is not FALSE is true somewhere
  pub satisfied : (a : NodeId) → IsHeld nodes a → a ≢ FALSE → (v : V) × (truth kind nodes a v ≡ true)
  satisfied a i d = let p = apart a FALSE i (omega arith) d in (p.0, p.1 ∙ ap (λ b. not (not b)) (truth_first kind nodes p.0 descends))
