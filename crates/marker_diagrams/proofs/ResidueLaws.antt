-- The subtrees of an id are the residues of its truth.
use Rattle.std.proofs.Common.{◌≡◌, ◌≢◌, ℕ, zero, suc, ◌<◌, ◌≤◌, Bool, true, false, cond, List, length, Option, Some, None, ◌⊎◌, inl, inr, refl, sym, ap, ◌∙◌, arith}
use Rattle.std.specs.Ordering.{is_eq, is_lt, ordering_reverse}
use Rattle.std.specs.declared.cmp.Ordering.{Ordering}
use Rattle.std.specs.declared.cmp.Ordering.TheVariants.{Less}
use Rattle.std.proofs.lemmas.Bool.{true≢false, false≢true}
use Rattle.std.proofs.lemmas.Cmp.{tied_itself}
use Rattle.marker_diagrams.specs.declared.node_id.NodeId.{NodeId}
use Rattle.marker_diagrams.specs.Id.{signed, place_of, is_negated, signed_id}
use Rattle.marker_diagrams.specs.Diagram.{NodeKind, node_at, node_of, IsHeld, truth_at, truth, IsAfter, with_variable, IsLawful, IsStore, Keeps}
use Rattle.marker_diagrams.specs.Residue.{IsSubtree, itself, child, hold, IsResidue, DependsOn}
use Rattle.marker_diagrams.proofs.IdLaws.{signed_id_back}
use Rattle.marker_diagrams.proofs.NodeLaws.{same_some, none_some, truth_free, truth_node, truth_child, truth_alike, keeps_itself}
use Rattle.marker_diagrams.proofs.Canonicity.{descends, pick_at, child_seen, unseen, separated, one_truth}

lt_less : (r : Ordering) → is_lt r ≡ true → r ≡ Less
lt_less r h1 = grind arith

not_so : (b c : Bool) → (b ≡ true → c ≡ true) → c ≡ false → b ≡ false
not_so b c h1 h2 = grind arith

-- if c and d are what b makes of them, the two choices are one
kept_at : {A : Type 0} (b c d : Bool) (p q v : A) → (b ≡ true → (c ≡ true) × (d ≡ false)) → cond b p (cond c (cond d q p) v) ≡ cond c (cond d q p) v
kept_at b c d p q v h1 = grind arith

module _ {N X V : Type 0} (kind : NodeKind N X V) where
  -- subtrees of subtrees are subtrees
  pub subtree_both : (nodes : List N) (t s u : NodeId) → IsSubtree kind nodes t s → IsSubtree kind nodes s u → IsSubtree kind nodes t u
  subtree_both nodes t s u h itself = h
  subtree_both nodes t s u h (child r _ n v k e f) = child r u n v (subtree_both nodes t s r h k) e f

  -- subtrees in a list that grew are subtrees in the old one, which has them
  pub subtree_kept : (old new : List N) (t u : NodeId) → Keeps kind old new → ((i : ℕ) (n : N) → node_at old i ≡ Some n → (v : V) → place_of (kind.pick n v) < i) →
      IsHeld old t → IsSubtree kind new t u → IsSubtree kind old t u × IsHeld old u
  subtree_kept old new t u k b i itself = (itself, i)
  subtree_kept old new t u k b i (child r _ n v h e f) =
      let p = subtree_kept old new t r k b i h in
      let g : node_of old r ≡ Some n = sym (k.node (place_of r) p.1) ∙ e in
      let l : place_of (kind.pick n v) < place_of r = b (place_of r) n g v in
      let m : place_of u ≡ place_of (kind.pick n v) = ap place_of f in
      let q : place_of r ≤ length old = p.1 in
      (child r u n v p.0 g f, omega arith)

module _ {N X V : Type 0} (kind : NodeKind N X V) (laws : IsLawful kind) where
  abbrev pub before : X → X → Bool
  before x y = is_lt (kind.cmp x y)

  chain : (x y z : X) → before x y ≡ true → before y z ≡ true → before x z ≡ true
  chain x y z h k = ap is_lt (laws.total.trans x y z (lt_less _ h) (lt_less _ k))

  not_equal : (x y : X) → before y x ≡ true → is_eq (kind.cmp x y) ≡ false
  not_equal x y h = ap is_eq (laws.total.antisymm x y ∙ ap ordering_reverse (lt_less _ h))

  not_before_itself : (x : X) → before x x ≡ false
  not_before_itself x = ap is_lt (tied_itself laws.total x)

  -- a node on a variable before x picks by the held valuation, any other by the free one
  pick_held : (n : N) (x : X) (s v : V) → before (kind.variable n) x ≡ true → kind.pick n (hold kind x s v) ≡ kind.pick n s
  pick_held n x s v h = laws.own n (λ y. is_lt (kind.cmp y x)) s v ∙ ap (λ b. cond b (kind.pick n s) (kind.pick n v)) h

  pick_free : (n : N) (x : X) (s v : V) → before (kind.variable n) x ≡ false → kind.pick n (hold kind x s v) ≡ kind.pick n v
  pick_free n x s v h = laws.own n (λ y. is_lt (kind.cmp y x)) s v ∙ ap (λ b. cond b (kind.pick n s) (kind.pick n v)) h

  between : (z n a : X) → before z a ≡ true → before n a ≡ false → before z n ≡ true
  between z n a h1 h2 = grind arith

  module _ (nodes : List N) (store : IsStore kind nodes) where
    down : (i : ℕ) (n : N) → node_at nodes i ≡ Some n → (v : V) → place_of (kind.pick n v) < i
    down = descends kind laws nodes store

    -- the id depends on no variable before x
    abbrev pub IsFrom : X → NodeId → Type 0
    IsFrom x t = (n : N) → node_of nodes t ≡ Some n → before (kind.variable n) x ≡ false

    from_child : (x : X) (i : ℕ) (n : N) (v : V) → node_at nodes i ≡ Some n → before (kind.variable n) x ≡ false → IsFrom x (kind.pick n v)
    from_child x i n v e h m f = not_so _ _ (λ k. chain (kind.variable n) (kind.variable m) x (ap is_lt ((store.node i n e).after v m f)) k) h

    free_by : (x : X) (s v : V) (i : ℕ) → ((c : NodeId) → place_of c < i → IsFrom x c → truth kind nodes c (hold kind x s v) ≡ truth kind nodes c v) →
        ((n : N) → node_at nodes i ≡ Some n → before (kind.variable n) x ≡ false) → (o : Option N) → node_at nodes i ≡ o → truth_at kind nodes i (hold kind x s v) ≡ truth_at kind nodes i v
    free_by x s v i ih h None e = truth_free kind nodes i (hold kind x s v) e ∙ sym (truth_free kind nodes i v e)
    free_by x s v i ih h (Some n) e =
        truth_node kind nodes i n (hold kind x s v) down e ∙ ap (λ c. truth kind nodes c (hold kind x s v)) (pick_free n x s v (h n e))
        ∙ ih (kind.pick n v) (down i n e v) (from_child x i n v e (h n e)) ∙ sym (truth_node kind nodes i n v down e)

    free_below : (k : ℕ) (x : X) (s v : V) (t : NodeId) → place_of t < k → IsFrom x t → truth kind nodes t (hold kind x s v) ≡ truth kind nodes t v
    free_below zero x s v t l h = absurd (omega arith)
    free_below (suc k) x s v t l h = ap (signed (is_negated t)) (free_by x s v (place_of t) (λ c j. free_below k x s v c (omega arith)) h (node_of nodes t) refl)

    -- such an id does not see what is held
    held_free : (x : X) (s v : V) (t : NodeId) → IsFrom x t → truth kind nodes t (hold kind x s v) ≡ truth kind nodes t v
    held_free x s v t h = free_below (suc (place_of t)) x s v t (omega arith) h

    -- an id at a valuation by which its node picks as by s
    child_is : (t : NodeId) (n : N) (s v : V) → node_of nodes t ≡ Some n → kind.pick n v ≡ kind.pick n s → truth kind nodes t v ≡ truth kind nodes (signed_id (is_negated t) (kind.pick n s)) v
    child_is t n s v e h = truth_child kind nodes t n v down e ∙ ap (λ c. truth kind nodes (signed_id (is_negated t) c) v) h

    -- ---- each residue is that of a subtree
    abbrev pub Found : NodeId → X → V → Type 0
    Found t x s = (u : NodeId) × (IsSubtree kind nodes t u) × IsResidue kind (truth kind nodes t) x s (truth kind nodes u)

    found_by : (t : NodeId) (x : X) (s : V) → ((c : NodeId) → place_of c < place_of t → Found c x s) → (o : Option N) → node_of nodes t ≡ o → Found t x s
    found_by t x s ih None e = (t, itself, λ v. sym (held_free x s v t (λ n f. none_some n (sym e ∙ f))))
    found_by t x s ih (Some n) e = by_test (before (kind.variable n) x) refl
      where
        by_test : (b : Bool) → before (kind.variable n) x ≡ b → Found t x s
        by_test false h = (t, itself, λ v. sym (held_free x s v t (λ m f. ap (λ k. before (kind.variable k) x) (same_some m n (sym f ∙ e)) ∙ h)))
        by_test true h =
            let c : NodeId = signed_id (is_negated t) (kind.pick n s) in
            let p = ih c (down (place_of t) n e s) in
            (p.0, subtree_both kind nodes t c p.0 (child t c n s itself e refl) p.1, λ v. p.2 v ∙ sym (child_is t n s (hold kind x s v) e (pick_held n x s v h)))

    found_below : (k : ℕ) (t : NodeId) (x : X) (s : V) → place_of t < k → Found t x s
    found_below zero t x s l = absurd (omega arith)
    found_below (suc k) t x s l = found_by t x s (λ c j. found_below k c x s (omega arith)) (node_of nodes t) refl

    pub each_residue : (t : NodeId) (x : X) (s : V) → (u : NodeId) × (IsSubtree kind nodes t u) × IsResidue kind (truth kind nodes t) x s (truth kind nodes u)
    each_residue t x s = found_below (suc (place_of t)) t x s (omega arith)

    -- ---- each subtree is a residue
    pub record Residue (t u : NodeId) : Type 0 where
      pub at : X
      pub held : V
      pub from : IsFrom at u
      pub means : IsResidue kind (truth kind nodes t) at held (truth kind nodes u)

    -- a variable after n's, and none of u's before it
    next_by : (n : N) (u : NodeId) → IsAfter kind nodes (kind.variable n) u → (o : Option N) → node_of nodes u ≡ o → (x : X) × (before (kind.variable n) x ≡ true) × (IsFrom x u)
    next_by n u h None e = let y = laws.later (kind.variable n) in (y.0, ap is_lt y.1, λ m f. none_some m (sym e ∙ f))
    next_by n u h (Some m) e = (kind.variable m, ap is_lt (h m e), λ k f. ap (λ z. before (kind.variable z) (kind.variable m)) (same_some k m (sym f ∙ e)) ∙ not_before_itself (kind.variable m))

    -- a child of a residue is one: what is held is the parent's, and the child's choice at the parent's variable
    step : (t r u : NodeId) (n : N) (w : V) → node_of nodes r ≡ Some n → u ≡ signed_id (is_negated r) (kind.pick n w) → Residue t r → Residue t u
    step t r u n w e f p =
        let a : IsAfter kind nodes (kind.variable n) u = λ m g. (store.node (place_of r) n e).after w m (ap (node_of nodes) (sym f) ∙ g) in
        let q = next_by n u a (node_of nodes u) refl in
        let s : V = with_variable kind (kind.variable n) w p.held in
        record {
          at = q.0;
          held = s;
          from = q.2;
          means = λ v.
              let y : V = hold kind q.0 s v in
              sym (held_free q.0 s v u q.2)
              ∙ ap (λ z. truth kind nodes z y) f
              ∙ sym (child_is r n w y e (pick_held n q.0 s v q.1 ∙ pick_at kind laws nodes store n (kind.variable n) w p.held (tied_itself laws.total (kind.variable n))))
              ∙ p.means y ∙ ap (signed (is_negated t)) (truth_alike kind nodes (place_of t) (hold kind p.at p.held y) y (λ m. same_pick q.0 v m q.1));
        }
      where
        later : (x z : X) → before (kind.variable n) x ≡ true → before z p.at ≡ true → (before z x ≡ true) × (is_eq (kind.cmp (kind.variable n) z) ≡ false)
        later x z h k =
            let l : before z (kind.variable n) ≡ true = between z (kind.variable n) p.at k (p.from n e) in
            (chain z (kind.variable n) x l h, not_equal (kind.variable n) z l)

        -- the pick of a node by what is held now, in the three valuations
        pick_now : (x : X) (v : V) (m : N) → kind.pick m (hold kind x (with_variable kind (kind.variable n) w p.held) v)
            ≡ cond (before (kind.variable m) x) (cond (is_eq (kind.cmp (kind.variable n) (kind.variable m))) (kind.pick m w) (kind.pick m p.held)) (kind.pick m v)
        pick_now x v m =
            laws.own m (λ y. is_lt (kind.cmp y x)) (with_variable kind (kind.variable n) w p.held) v
            ∙ ap (λ c. cond (before (kind.variable m) x) c (kind.pick m v)) (laws.own m (λ y. is_eq (kind.cmp (kind.variable n) y)) w p.held)

        same_pick : (x : X) (v : V) (m : N) → before (kind.variable n) x ≡ true →
            kind.pick m (hold kind p.at p.held (hold kind x (with_variable kind (kind.variable n) w p.held) v)) ≡ kind.pick m (hold kind x (with_variable kind (kind.variable n) w p.held) v)
        same_pick x v m h =
            laws.own m (λ y. is_lt (kind.cmp y p.at)) p.held (hold kind x (with_variable kind (kind.variable n) w p.held) v)
            ∙ ap (cond (before (kind.variable m) p.at) (kind.pick m p.held)) (pick_now x v m)
            ∙ kept_at (before (kind.variable m) p.at) (before (kind.variable m) x) (is_eq (kind.cmp (kind.variable n) (kind.variable m))) (kind.pick m p.held) (kind.pick m w) (kind.pick m v) (later x (kind.variable m) h)
            ∙ sym (pick_now x v m)

    -- the first variable of an id, or any one if it has none
    first_by : (t : NodeId) (o : Option N) → node_of nodes t ≡ o → (x : X) × IsFrom x t
    first_by t None e = (laws.some, λ n f. none_some n (sym e ∙ f))
    first_by t (Some n) e = (kind.variable n, λ m f. ap (λ z. before (kind.variable z) (kind.variable n)) (same_some m n (sym f ∙ e)) ∙ not_before_itself (kind.variable n))

    pub is_residue : (t u : NodeId) → IsSubtree kind nodes t u → Residue t u
    is_residue t u itself =
        let x = first_by t (node_of nodes t) refl in
        record { at = x.0; held = kind.lowest; from = x.1; means = λ v. sym (held_free x.0 kind.lowest v t x.1) }
    is_residue t u (child r _ n v h e f) = step t r u n v e f (is_residue t r h)

    pub each_subtree : (t u : NodeId) → IsSubtree kind nodes t u → (x : X) × (s : V) × IsResidue kind (truth kind nodes t) x s (truth kind nodes u)
    each_subtree t u h = let r = is_residue t u h in (r.at, r.held, r.means)

    -- ---- each subtree is there once
    pub one_subtree : (t : NodeId) → IsHeld nodes t → (u w : NodeId) → IsSubtree kind nodes t u → IsSubtree kind nodes t w → ((v : V) → truth kind nodes u v ≡ truth kind nodes w v) → u ≡ w
    one_subtree t i u w h k e = one_truth kind laws nodes store u w (at u h) (at w k) e
      where
        at : (u : NodeId) → IsSubtree kind nodes t u → IsHeld nodes u
        at u h = (subtree_kept kind nodes nodes t u (keeps_itself kind nodes) down i h).1

    -- ---- the root branches on the first variable of the truth
    pub depends : (t : NodeId) (n : N) → IsHeld nodes t → node_of nodes t ≡ Some n → DependsOn kind (truth kind nodes t) (kind.variable n)
    depends t n i e =
        let p = laws.proper n (store.node (place_of t) n e).reduced in
        let d = separated kind laws nodes store (signed_id (is_negated t) (kind.pick n p.0)) (signed_id (is_negated t) (kind.pick n p.1)) (held p.0) (held p.1) (λ k. p.2 (signed_id_back (is_negated t) (kind.pick n p.0) (kind.pick n p.1) k)) in
        by_case p.0 p.1 d.0 d.1 (one_answer (truth kind nodes t (with_variable kind (kind.variable n) p.0 d.0)) (truth kind nodes t d.0))
      where
        held : (v : V) → IsHeld nodes (signed_id (is_negated t) (kind.pick n v))
        held v = let l : place_of (kind.pick n v) < place_of t = down (place_of t) n e v in omega arith

        one_answer : (a b : Bool) → (a ≡ b) ⊎ (a ≢ b)
        one_answer true true = inl refl
        one_answer true false = inr true≢false
        one_answer false true = inr false≢true
        one_answer false false = inl refl

        seen : (v y : V) → truth kind nodes t (with_variable kind (kind.variable n) v y) ≡ truth kind nodes (signed_id (is_negated t) (kind.pick n v)) y
        seen v y = child_seen kind laws nodes store t n (kind.variable n) v y e (tied_itself laws.total (kind.variable n))

        by_case : (v w y : V) → (truth kind nodes (signed_id (is_negated t) (kind.pick n v)) y ≢ truth kind nodes (signed_id (is_negated t) (kind.pick n w)) y) →
            ((truth kind nodes t (with_variable kind (kind.variable n) v y) ≡ truth kind nodes t y) ⊎ (truth kind nodes t (with_variable kind (kind.variable n) v y) ≢ truth kind nodes t y)) → DependsOn kind (truth kind nodes t) (kind.variable n)
        by_case v w y d (inr k) = (v, y, k)
        by_case v w y d (inl k) = (w, y, λ f. d (sym (seen v y) ∙ k ∙ sym f ∙ seen w y))

    pub sees_none_before : (t : NodeId) (n : N) (x : X) → node_of nodes t ≡ Some n → DependsOn kind (truth kind nodes t) x → before x (kind.variable n) ≡ false
    sees_none_before t n x h1 h2 = grind (arith, unseen, same_some, lt_less)
