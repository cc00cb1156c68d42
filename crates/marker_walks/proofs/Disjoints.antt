-- Whether two ids are never true together, from their children.
use Rattle.std.proofs.Common.{◌≡◌, ℕ, zero, suc, ◌+◌, ◌<◌, Bool, true, false, cond, ◌&&◌, List, [], ◌∷◌, Option, Some, None, replicate, refl, sym, ap, ◌∙◌, subst, arith}
use Rattle.std.specs.Prelude.{IfNone, is_some, slice_get}
use Rattle.std.specs.Ordering.{is_eq}
use Rattle.std.proofs.lemmas.Bool.{true≢false, false≢true}
use Rattle.std.proofs.lemmas.List.Elements.{All-replicate}
use Rattle.marker_environment.specs.Valuation.{Valuation}
use Rattle.marker_diagrams.specs.declared.node_id.NodeId.{NodeId}
use Rattle.marker_diagrams.specs.declared.node_id.TheConstants.NodeId.{FALSE}
use Rattle.marker_diagrams.specs.Id.{place_of, is_negated, signed_id, same_id}
use Rattle.marker_diagrams.specs.Diagram.{node_of, IsHeld, IsStore, truth, with_variable}
use Rattle.marker_diagrams.proofs.IdLaws.{same_id_is, not_same_id}
use Rattle.marker_diagrams.proofs.NodeLaws.{same_some, none_some}
use Rattle.marker_diagrams.proofs.Canonicity.{satisfied, unseen}
use Rattle.marker_nodes.specs.Variable.{Variable, variable_cmp}
use Rattle.marker_nodes.specs.Branches.{variable, value_at as pick}
use Rattle.marker_nodes.specs.Node.{Node, markers}
use Rattle.marker_nodes.specs.declared.side.Sides.{Sides}
use Rattle.marker_nodes.specs.Sides as sides
use Rattle.marker_nodes.proofs.PairLaws.{listed_side}
use Rattle.marker_nodes.proofs.NodeLaws.{lawful}
use Rattle.marker_nodes.specs.And.{IsAnd}
use Rattle.marker_nodes.specs.Side.{branch_by, branch, HasBranches, IsFirst}
use Rattle.marker_walks.specs.Disjoint.{AreApart, AreDisjoint, AreShared, IsLastOf, TellsDisjoint}
use Rattle.marker_nodes.proofs.ChildLaws.{branch_means, branch_after}
use Rattle.marker_nodes.proofs.Firsts.{false_is}
use Rattle.marker_nodes.proofs.ChildLaws.{pair_below}

-- what holds of each pair of a list
abbrev pub EachPair : (NodeId × NodeId → Type 0) → List (NodeId × NodeId) → Type 0
EachPair P [] = Unit {0}
EachPair P (q ∷ qs) = P q × EachPair P qs

module _ (P : NodeId × NodeId → Type 0) where
  pub each_from : (qs : List (NodeId × NodeId)) → ((i : ℕ) (q : NodeId × NodeId) → slice_get qs i ≡ Some q → P q) → EachPair P qs
  each_from [] h = tt
  each_from (q ∷ qs) h = (h 0 q refl, each_from qs (λ i. h (suc i)))

  pub each_at : (qs : List (NodeId × NodeId)) → EachPair P qs → (i : ℕ) (q : NodeId × NodeId) → slice_get qs i ≡ Some q → P q
  each_at [] h i q e = none_some q e
  each_at (r ∷ qs) h zero q e = subst P (same_some r q e) h.0
  each_at (r ∷ qs) h (suc i) q e = each_at qs h.1 i q e

and_both : (x y : Bool) → (x && y) ≡ true → (x ≡ true) × (y ≡ true)
and_both x y h1 = grind arith

pub tells_yes : (nodes : List Node) (a b : NodeId) → AreDisjoint nodes a b → TellsDisjoint nodes a b true
tells_yes nodes a b h = record { disjoint = λ e. h; shared = λ e. absurd (true≢false e) }

pub tells_no : (nodes : List Node) (a b : NodeId) → AreShared nodes a b → TellsDisjoint nodes a b false
tells_no nodes a b h = record { disjoint = λ e. absurd (false≢true e); shared = λ e. h }

-- what is true if there is nothing
pub on_none : {A : Type 0} → (found : Option A) (P : Type 0) → IfNone found P → is_some found ≡ false → P
on_none found P h1 h2 = grind arith

-- if two ids are disjoint, so is the last pair of their children
pub last_apart : (nodes : List Node) (a b left right : NodeId) → AreDisjoint nodes a b → IsLastOf nodes a b left right → AreDisjoint nodes left right
last_apart nodes a b left right apart last v = by_values (truth markers nodes left v) (truth markers nodes right v) refl refl
  where
    by_values : (x y : Bool) → truth markers nodes left v ≡ x → truth markers nodes right v ≡ y → (truth markers nodes left v && truth markers nodes right v) ≡ false
    by_values true true e f =
        let s = (last.tells false (tells_no nodes left right (v, e, f))).shared refl in
        absurd (true≢false (sym (ap (λ z. z && truth markers nodes b s.0) s.1 ∙ s.2) ∙ apart s.0))
    by_values true false e f = ap (λ z. z && truth markers nodes right v) e ∙ f
    by_values false y e f = ap (λ z. z && truth markers nodes right v) e

-- at first each remembered pair is of FALSE only
pub nothing_apart : (nodes : List Node) (n : ℕ) → AreApart nodes (replicate n (FALSE, FALSE))
nothing_apart nodes n = All-replicate (λ p. AreDisjoint nodes p.0 p.1) n (FALSE, FALSE) (λ v. ap (λ z. z && z) (false_is nodes v))

module _ (nodes : List Node) (a b : NodeId) where
  -- a pair of children, under the signs of the ids, is never true together
  abbrev pub IsApart : NodeId × NodeId → Type 0
  IsApart q = AreDisjoint nodes (signed_id (is_negated a) q.0) (signed_id (is_negated b) q.1)

  module _ (x : Variable) where
    -- a pair of children, before the signs of the ids
    abbrev pub IsFound : NodeId × NodeId → Type 0
    IsFound q = (v : Valuation) × HasBranches nodes x a b v q

    -- the pairs that are left of a walk: if each is disjoint, the ids are
    pub record Walks (left : List (NodeId × NodeId)) : Type 0 where
      pub found : EachPair IsFound left
      pub rest : EachPair IsApart left → AreDisjoint nodes a b

    module _ (now later : List (NodeId × NodeId)) (q : NodeId × NodeId) (e : now ≡ q ∷ later) (w : Walks now) where
      pub walk_next : IsApart q → Walks later
      walk_next k = record { found = (subst (EachPair IsFound) e w.found).1; rest = λ h. w.rest (subst (EachPair IsApart) (sym e) (k, h)) }

    pub walk_end : (now : List (NodeId × NodeId)) → now ≡ [] → Walks now → TellsDisjoint nodes a b true
    walk_end now e w = tells_yes nodes a b (w.rest (subst (EachPair IsApart) (sym e) tt))

  -- The pairs that are left of a walk at the first of the variables, and a last one that is still
  -- to be visited: if all of them are disjoint, the ids are, and if the last is not, the ids are
  -- not.
  pub record WalksBut (last : NodeId × NodeId) (left : List (NodeId × NodeId)) : Type 0 where
    pub variable : Variable
    pub first : IsFirst nodes variable a b
    pub walk : AreDisjoint nodes last.0 last.1 → Walks variable left
    pub found : EachPair (IsFound variable) left
    pub shared : AreShared nodes last.0 last.1 → AreShared nodes a b
    pub below : place_of last.0 + place_of last.1 < place_of a + place_of b
    pub left_held : IsHeld nodes last.0
    pub right_held : IsHeld nodes last.1

-- the child at a variable does not see the other variables
branch_own : (nodes : List Node) (x : Variable) (t : NodeId) (s u : Valuation) → branch nodes x t (with_variable markers x s u) ≡ branch nodes x t s
branch_own nodes x t s u = by_node (node_of nodes t)
  where
    by_node : (o : Option Node) → branch_by o x t (with_variable markers x s u) ≡ branch_by o x t s
    by_node None = refl
    by_node (Some n) = by_test (is_eq (variable_cmp x (variable n))) refl
      where
        by_test : (b : Bool) → is_eq (variable_cmp x (variable n)) ≡ b → cond b (signed_id (is_negated t) (pick n (with_variable markers x s u))) t ≡ cond b (signed_id (is_negated t) (pick n s)) t
        by_test true e = ap (signed_id (is_negated t)) (lawful.own n (λ y. is_eq (variable_cmp x y)) s u ∙ ap (λ c. cond c (pick n s) (pick n u)) e)
        by_test false e = refl

module _ (nodes : List Node) (store : IsStore markers nodes) (a b : NodeId) (i : IsHeld nodes a) (j : IsHeld nodes b) where
  -- ---- the conjunction needs no node
  pub tells_short : (t : NodeId) → IsAnd nodes a b t → (z : Bool) → z ≡ same_id t FALSE → TellsDisjoint nodes a b z
  tells_short t h z e = subst (TellsDisjoint nodes a b) (sym e) (by_test (same_id t FALSE) refl)
    where
      by_test : (y : Bool) → same_id t FALSE ≡ y → TellsDisjoint nodes a b y
      by_test true f = tells_yes nodes a b (λ v. sym (h.means v) ∙ ap (λ s. truth markers nodes s v) (same_id_is t FALSE f) ∙ false_is nodes v)
      by_test false f =
          let s = satisfied markers lawful nodes store t h.held (not_same_id t FALSE f) in
          let r = and_both (truth markers nodes a s.0) (truth markers nodes b s.0) (sym (h.means s.0) ∙ s.1) in
          tells_no nodes a b (s.0, r.0, r.1)

  module _ (x : Variable) (first : IsFirst nodes x a b) where
    -- ---- from children
    disjoint_split : ((v : Valuation) → AreDisjoint nodes (branch nodes x a v) (branch nodes x b v)) → AreDisjoint nodes a b
    disjoint_split h v = ap (λ z. z && truth markers nodes b v) (branch_means nodes store x a v) ∙ ap (λ z. truth markers nodes (branch nodes x a v) v && z) (branch_means nodes store x b v) ∙ h v v

    shared_split : (s : Valuation) → AreShared nodes (branch nodes x a s) (branch nodes x b s) → AreShared nodes a b
    shared_split s h =
        let m = with_variable markers x s h.0 in (
          m,
          branch_means nodes store x a m ∙ ap (λ t. truth markers nodes t m) (branch_own nodes x a s h.0)
              ∙ unseen markers lawful nodes store (branch nodes x a s) x s h.0 (branch_after nodes store x a first.from_a s) ∙ h.1,
          branch_means nodes store x b m ∙ ap (λ t. truth markers nodes t m) (branch_own nodes x b s h.0)
              ∙ unseen markers lawful nodes store (branch nodes x b s) x s h.0 (branch_after nodes store x b first.from_b s) ∙ h.2,
        )

    -- the next pair is below
    pub next_smaller : (q : NodeId × NodeId) → IsFound nodes a b x q → (l r : NodeId) → l ≡ signed_id (is_negated a) q.0 → r ≡ signed_id (is_negated b) q.1 → (place_of l + place_of r < place_of a + place_of b) × (IsHeld nodes l × IsHeld nodes r)
    next_smaller q f l r e g =
        let h = pair_below nodes store a b i j x first f.0 q f.1 in
        let h0 = h.0 in
        let h1 = h.1 in
        let h2 = h.2 in
        let k : place_of l ≡ place_of q.0 = ap place_of e in
        let n : place_of r ≡ place_of q.1 = ap place_of g in
        (omega arith, (omega arith, omega arith))

    -- a pair that is true together shows that the ids are
    pub next_shared : (q : NodeId × NodeId) → IsFound nodes a b x q → (l r : NodeId) → l ≡ signed_id (is_negated a) q.0 → r ≡ signed_id (is_negated b) q.1 → AreShared nodes l r → AreShared nodes a b
    next_shared q f l r e g t =
        shared_split f.0 (subst (λ s. AreShared nodes s (branch nodes x b f.0)) (e ∙ f.1.0) (subst (AreShared nodes l) (g ∙ f.1.1) t))

    pub next_apart : (q : NodeId × NodeId) (l r : NodeId) → l ≡ signed_id (is_negated a) q.0 → r ≡ signed_id (is_negated b) q.1 → AreDisjoint nodes l r → IsApart nodes a b q
    next_apart q l r e g t = subst (λ s. AreDisjoint nodes s (signed_id (is_negated b) q.1)) e (subst (AreDisjoint nodes l) g t)

    -- the pairs of children are a walk
    found_walks : (pairs : List (NodeId × NodeId)) → ((k : ℕ) (q : NodeId × NodeId) → slice_get pairs k ≡ Some q → IsFound nodes a b x q) →
        ((v : Valuation) → (k : ℕ) × (q : NodeId × NodeId) × (slice_get pairs k ≡ Some q) × HasBranches nodes x a b v q) → Walks nodes a b x pairs
    found_walks pairs found covers = record {
      found = each_from (IsFound nodes a b x) pairs found;
      rest = λ h. disjoint_split (λ v.
          let c = covers v in
          subst (λ s. AreDisjoint nodes s (branch nodes x b v)) c.3.0 (subst (AreDisjoint nodes (signed_id (is_negated a) c.1.0)) c.3.1 (each_at (IsApart nodes a b) pairs h c.0 c.1 c.2)));
    }

  -- at first nothing is left but the pairs
  pub walks : (both : Sides) → IsFirst nodes (sides.variable both) a b → ((v : Valuation) → HasBranches nodes (sides.variable both) a b v (sides.pair_at both v)) →
      (pairs : List (NodeId × NodeId)) → ((v : Valuation) → slice_get pairs (sides.piece both v) ≡ Some (sides.pair_at both v)) →
      ((i : ℕ) (p : NodeId × NodeId) → slice_get pairs i ≡ Some p → (v : Valuation) × (sides.pair_at both v ≡ p)) →
      0 < place_of a → WalksBut nodes a b (FALSE, FALSE) pairs
  walks both first has pairs value inhabited n =
      let s = listed_side nodes a b both first has pairs value inhabited in
      let w = found_walks s.variable s.first pairs s.found s.covers in
      record {
        variable = s.variable;
        first = s.first;
        walk = λ h. w;
        found = w.found;
        shared = λ h. absurd (false≢true (sym (false_is nodes h.0) ∙ h.1));
        below = omega arith;
        left_held = omega arith;
        right_held = omega arith;
      }

  -- the next pair of a walk
  module _ (last : NodeId × NodeId) (now later : List (NodeId × NodeId)) (q : NodeId × NodeId) (e : now ≡ q ∷ later) (w : WalksBut nodes a b last now) (l r : NodeId) (l_is : l ≡ signed_id (is_negated a) q.0) (r_is : r ≡ signed_id (is_negated b) q.1) where
    found_now : IsFound nodes a b w.variable q × EachPair (IsFound nodes a b w.variable) later
    found_now = subst (EachPair (IsFound nodes a b w.variable)) e w.found

    pub on_smaller : (place_of l + place_of r < place_of a + place_of b) × (IsHeld nodes l × IsHeld nodes r)
    on_smaller = next_smaller w.variable w.first q found_now.0 l r l_is r_is

    pub on_left : IsHeld nodes l
    on_left = on_smaller.1.0

    pub on_right : IsHeld nodes r
    on_right = on_smaller.1.1

    -- if it is not disjoint, the ids are not
    pub on_shared : (z : Bool) → TellsDisjoint nodes l r z → z ≡ false → AreShared nodes a b
    on_shared z t k = next_shared w.variable w.first q found_now.0 l r l_is r_is (t.shared k)

    -- it is disjoint
    pub on_told : (z : Bool) → TellsDisjoint nodes l r z → z ≡ true → WalksBut nodes a b last later
    on_told z t k = record {
      variable = w.variable;
      first = w.first;
      walk = λ h. walk_next nodes a b w.variable now later q e (w.walk h) (next_apart w.variable w.first q l r l_is r_is (t.disjoint k));
      found = found_now.1;
      shared = w.shared;
      below = w.below;
      left_held = w.left_held;
      right_held = w.right_held;
    }

    -- the last one is disjoint, and this one is the last now
    pub on_next : (z : Bool) → TellsDisjoint nodes last.0 last.1 z → z ≡ true → WalksBut nodes a b (l, r) later
    on_next z t k = record {
      variable = w.variable;
      first = w.first;
      walk = λ h. walk_next nodes a b w.variable now later q e (w.walk (t.disjoint k)) (next_apart w.variable w.first q l r l_is r_is h);
      found = found_now.1;
      shared = next_shared w.variable w.first q found_now.0 l r l_is r_is;
      below = on_smaller.0;
      left_held = on_smaller.1.0;
      right_held = on_smaller.1.1;
    }

  -- each pair was disjoint
  pub on_all : (now : List (NodeId × NodeId)) → now ≡ [] → WalksBut nodes a b (FALSE, FALSE) now → TellsDisjoint nodes a b true
  on_all now e w = walk_end nodes a b w.variable now e (w.walk (λ v. ap (λ z. z && z) (false_is nodes v)))

  -- the ids are disjoint exactly if the last pair is
  pub on_end : (last : NodeId × NodeId) (now : List (NodeId × NodeId)) → now ≡ [] → WalksBut nodes a b last now → (z : Bool) → TellsDisjoint nodes last.0 last.1 z → TellsDisjoint nodes a b z
  on_end last now e w true t = walk_end nodes a b w.variable now e (w.walk (t.disjoint refl))
  on_end last now e w false t = tells_no nodes a b (w.shared (t.shared refl))
