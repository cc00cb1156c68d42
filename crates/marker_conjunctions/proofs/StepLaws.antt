-- Steps of a conjunction: which pairs are still to be computed, and which wait for which.
use Rattle.std.proofs.Common.{◌≡◌, ℕ, zero, suc, ◌+◌, ◌<◌, ◌≤◌, Bool, true, false, not, cond, ◌==◌, List, [], ◌∷◌, ◌++◌, length, Option, Some, None, is_some, inr, refl, sym, ap, ◌∙◌, subst, arith, append_assoc}
use Rattle.std.specs.Prelude.{slice_get, IfNone, IfSome}
use Rattle.std.specs.List.{list_any}
use Rattle.std.specs.Map.{lookup}
use Rattle.std.proofs.lemmas.Bool.{false≢true, and_from, eqb-true, eqb-false}
use Rattle.std.proofs.lemmas.List.{append-nil}
use Rattle.marker_environment.specs.Valuation.{Valuation}
use Rattle.marker_diagrams.specs.declared.node_id.NodeId.{NodeId}
use Rattle.marker_diagrams.specs.Id.{place_of, is_negated, signed_id, same_id}
use Rattle.marker_diagrams.specs.Diagram.{IsHeld, IsStore, Keeps}
use Rattle.marker_diagrams.specs.Residue.{IsSubtree, itself, child}
use Rattle.marker_diagrams.proofs.IdLaws.{same_id_itself, one_id}
use Rattle.marker_diagrams.proofs.NodeLaws.{Descends, keeps_itself}
use Rattle.marker_diagrams.proofs.ResidueLaws.{subtree_both, subtree_kept}
use Rattle.marker_nodes.specs.Variable.{Variable}
use Rattle.marker_nodes.specs.Node.{Node, markers, child_at}
use Rattle.marker_nodes.specs.And.{IsAnd, IsShort}
use Rattle.marker_nodes.specs.declared.choice.Choice.{Choice}
use Rattle.marker_nodes.specs.Choice.{asked, chosen}
use Rattle.marker_nodes.specs.Side.{branch, HasBranches, IsFirst}
use Rattle.marker_nodes.proofs.ChildLaws.{pair_below}
use Rattle.marker_nodes.proofs.Descents.{held_kept}
use Rattle.marker_conjunctions.specs.Contents.{Contents, IsKept, IsWellKept, same_pair}
use Rattle.marker_conjunctions.specs.Count.{Spends, unknown}
use Rattle.marker_conjunctions.specs.Step.{Memo, IsKnown, IsSettled, Remembers, IsOpen, IsPair, ArePairs, IsWanted, Waits}
use Rattle.marker_conjunctions.specs.Branch.{Joins}
use Rattle.marker_conjunctions.proofs.AndLaws.{Ands, ands_more, ands_length, ands_at, known_is}
use Rattle.marker_conjunctions.proofs.CountLaws.{or_left, or_right, descends_of, spends_both, all_pairs, pairs_have, same_pair_is, fewer_by}

-- ---- what is known
pub open_none : (memo : Memo) (p : NodeId × NodeId) → IsOpen memo p → lookup (same_pair p) memo ≡ None
open_none memo p h = grind (arith, is_some)

pub known_by : (memo : Memo) (p : NodeId × NodeId) (t : NodeId) → Some t ≡ lookup (same_pair p) memo → IsSettled memo p
known_by memo p t e = inr (sym (ap is_some e))

pub opened : (memo : Memo) (a b : NodeId) → ¬ IsShort a b → None ≡ lookup (same_pair (a, b)) memo → (0 < place_of a) × (0 < place_of b) → IsOpen memo (a, b)
opened memo a b long none nodes = grind (arith, false≢true, is_some)

-- ---- lists of pairs
pub pairs_both : (nodes : List Node) (a b : NodeId) (xs ys : List (NodeId × NodeId)) → ArePairs nodes a b xs → ArePairs nodes a b ys → ArePairs nodes a b (xs ++ ys)
pairs_both nodes a b [] ys h g = g
pairs_both nodes a b (p ∷ xs) ys h g = (h.0, pairs_both nodes a b xs ys h.1 g)

pairs_parts : (nodes : List Node) (a b : NodeId) (xs ys : List (NodeId × NodeId)) → ArePairs nodes a b (xs ++ ys) → ArePairs nodes a b xs × ArePairs nodes a b ys
pairs_parts nodes a b [] ys h = (_, h)
pairs_parts nodes a b (p ∷ xs) ys h = let r = pairs_parts nodes a b xs ys h.1 in ((h.0, r.0), r.1)

pub pairs_popped : (nodes : List Node) (a b : NodeId) (old new : List (NodeId × NodeId)) (p : NodeId × NodeId) → old ≡ new ++ p ∷ [] → ArePairs nodes a b old → ArePairs nodes a b new × IsPair nodes a b p
pairs_popped nodes a b old new p e h = let r = pairs_parts nodes a b new (p ∷ []) (subst (ArePairs nodes a b) e h) in (r.0, r.1.0)

-- ---- subtrees of subtrees
pub pair_itself : (nodes : List Node) (a b : NodeId) → IsHeld nodes a → IsHeld nodes b → IsPair nodes a b (a, b)
pair_itself nodes a b i j = record { left_held = i; right_held = j; left = itself; right = itself }

module _ (old new : List Node) (k : Keeps markers old new) (descends : Descends markers old) (a b : NodeId) (p : NodeId × NodeId) (h : IsPair old a b p) where
  pub pair_under : (q : NodeId × NodeId) → IsPair new p.0 p.1 q → IsPair old a b q
  pair_under q g = grind (arith, subtree_kept, descends, subtree_both)

  pub pairs_under : (qs : List (NodeId × NodeId)) → ArePairs new p.0 p.1 qs → ArePairs old a b qs
  pairs_under [] g = _
  pairs_under (q ∷ qs) g = (pair_under q g.0, pairs_under qs g.1)

-- ---- the way down
pub nothing_waits : (nodes : List Node) (a b : NodeId) (xs : List (NodeId × NodeId)) → Waits nodes a b xs xs
nothing_waits nodes a b xs = record { more = []; added = sym (append-nil xs); pairs = _ }

one_waits : (nodes : List Node) (a b : NodeId) (old now last : List (NodeId × NodeId)) (p : NodeId × NodeId) → Waits nodes a b old now → IsPair nodes a b p → last ≡ now ++ p ∷ [] → Waits nodes a b old last
one_waits nodes a b old now last p w h pushed = grind (arith, append_assoc, pairs_both)

module _ (nodes : List Node) (descends : Descends markers nodes) (a b : NodeId) (p : NodeId × NodeId) (h : IsPair nodes a b p) where
  pub more_wait : (old now last : List (NodeId × NodeId)) → Waits nodes a b old now → Waits nodes p.0 p.1 now last → Waits nodes a b old last
  more_wait old now last w v = grind (arith, append_assoc, pairs_both, pairs_under, keeps_itself, descends)

  pub next_pair : (q : NodeId × NodeId) → IsPair nodes p.0 p.1 q → IsPair nodes a b q
  next_pair = pair_under nodes nodes (keeps_itself markers nodes) descends a b p h

-- ---- the children of two ids, one pair after another
abbrev EachPair : (NodeId × NodeId → Type 0) → List (NodeId × NodeId) → Type 0
EachPair P [] = Unit {0}
EachPair P (q ∷ qs) = P q × EachPair P qs

module _ (P : NodeId × NodeId → Type 0) where
  each_from : (qs : List (NodeId × NodeId)) → ((i : ℕ) (q : NodeId × NodeId) → slice_get qs i ≡ Some q → P q) → EachPair P qs
  each_from [] h = tt
  each_from (q ∷ qs) h = (h 0 q refl, each_from qs (λ i. h (suc i)))

module _ (nodes : List Node) (memo : Memo) (a b : NodeId) (x : Variable) (pair : Valuation → NodeId × NodeId) (piece : Valuation → ℕ) (count : ℕ) where
  -- a list, the pairs that are left of a walk, the last open one, and the conjunctions of all
  -- before, if none was open
  pub record Walk (old now left : List (NodeId × NodeId)) (next : NodeId × NodeId) (children : List NodeId) : Type 0 where
    pub all : List (NodeId × NodeId)
    pub counted : length all ≡ count
    pub at_piece : (v : Valuation) → slice_get all (piece v) ≡ Some (pair v)
    pub branches : EachPair (λ q. (v : Valuation) × HasBranches nodes x a b v q) left
    pub known : next ≡ (a, b) → (done : List (NodeId × NodeId)) × (all ≡ done ++ left) × Ands nodes a b done children
    pub wanted : (next ≡ (a, b) → ⊥) → IsWanted nodes memo a b next
    pub stands : IsPair nodes a b next
    pub waits : Waits nodes a b old now

  module _ (has : (v : Valuation) → HasBranches nodes x a b v (pair v)) where
    pub walk_from : (old pairs : List (NodeId × NodeId)) → IsHeld nodes a → IsHeld nodes b → length pairs ≡ count → ((v : Valuation) → slice_get pairs (piece v) ≡ Some (pair v)) →
        ((i : ℕ) (p : NodeId × NodeId) → slice_get pairs i ≡ Some p → (v : Valuation) × (pair v ≡ p)) → Walk old old pairs (a, b) []
    walk_from old pairs i j counted at_piece inhabited = record {
      all = pairs;
      counted = counted;
      at_piece = at_piece;
      branches = each_from (λ q. (v : Valuation) × HasBranches nodes x a b v q) pairs (λ i p e. let q = inhabited i p e in (q.0, subst (HasBranches nodes x a b q.0) q.1 (has q.0)));
      known = λ e. ([], refl, tt);
      wanted = λ other. absurd (other refl);
      stands = pair_itself nodes a b i j;
      waits = nothing_waits nodes a b old;
    }

    module _ (old now left : List (NodeId × NodeId)) (next : NodeId × NodeId) (children : List NodeId) (e : left ≡ []) (w : Walk old now left next children) (none : next ≡ (a, b)) where
      pub walk_count : length children ≡ count
      walk_count = let k = w.known none in ands_length nodes a b k.0 children k.2 ∙ sym (ap length (k.1 ∙ ap (λ l. k.0 ++ l) e ∙ append-nil k.0)) ∙ w.counted

      pub walk_ands : (v : Valuation) → IsAnd nodes (branch nodes x a v) (branch nodes x b v) (child_at children (piece v))
      walk_ands v =
          let k = w.known none in
          let all_done : w.all ≡ k.0 = k.1 ∙ ap (λ (l : List (NodeId × NodeId)). k.0 ++ l) e ∙ append-nil k.0 in
          subst (λ (s : NodeId). IsAnd nodes s (branch nodes x b v) (child_at children (piece v))) (has v).0
          (subst (λ (s : NodeId). IsAnd nodes (signed_id (is_negated a) (pair v).0) s (child_at children (piece v))) (has v).1
          (ands_at nodes a b k.0 children k.2 (piece v) (pair v) (sym (ap (λ (l : List (NodeId × NodeId)). slice_get l (piece v)) all_done) ∙ w.at_piece v)))

  module _ (first : IsFirst nodes x a b) (store : IsStore markers nodes) (i : IsHeld nodes a) (j : IsHeld nodes b) (old now left later : List (NodeId × NodeId)) (next : NodeId × NodeId) (children : List NodeId) (q : NodeId × NodeId) (e : left ≡ q ∷ later) (w : Walk old now left next children)
      (l r : NodeId) (l_is : l ≡ signed_id (is_negated a) q.0) (r_is : r ≡ signed_id (is_negated b) q.1) where
    branches_now : ((v : Valuation) × HasBranches nodes x a b v q) × EachPair (λ s. (v : Valuation) × HasBranches nodes x a b v s) later
    branches_now = subst (EachPair (λ s. (v : Valuation) × HasBranches nodes x a b v s)) e w.branches

    held_both : IsHeld nodes l × IsHeld nodes r
    held_both =
        let f = branches_now.0 in
        let s = pair_below nodes store a b i j x first f.0 q f.1 in
        let s0 = s.0 in
        let s1 = s.1 in
        let k : place_of l ≡ place_of q.0 = ap place_of l_is in
        let n : place_of r ≡ place_of q.1 = ap place_of r_is in
        (omega arith, omega arith)

    pub walk_known : (t : NodeId) (more : List NodeId) → more ≡ children ++ t ∷ [] → (IsHeld nodes l → IsHeld nodes r → IsAnd nodes l r t) → Walk old now later next more
    walk_known t more last h = record {
      all = w.all;
      counted = w.counted;
      at_piece = w.at_piece;
      branches = branches_now.1;
      known = λ none.
          let k = w.known none in (
            k.0 ++ q ∷ [],
            k.1 ∙ ap (λ (s : List (NodeId × NodeId)). k.0 ++ s) e ∙ sym (append_assoc k.0 (q ∷ []) later),
            subst (Ands nodes a b (k.0 ++ q ∷ [])) (sym last)
                (ands_more nodes a b k.0 children q t k.2
                (subst (λ (s : NodeId). IsAnd nodes s (signed_id (is_negated b) q.1) t) l_is (subst (λ (s : NodeId). IsAnd nodes l s t) r_is (h held_both.0 held_both.1)))),
          );
      wanted = w.wanted;
      stands = w.stands;
      waits = w.waits;
    }

    pub walk_open : (last : List (NodeId × NodeId)) → last ≡ now ++ next ∷ [] → IsOpen memo (l, r) → Walk old last later (l, r) children
    walk_open last pushed h = record {
      all = w.all;
      counted = w.counted;
      at_piece = w.at_piece;
      branches = branches_now.1;
      known = λ none. absurd (not_above none);
      wanted = λ other. one;
      stands = one.pair;
      waits = one_waits nodes a b old now last next w.waits w.stands pushed;
    }
      where
        one : IsWanted nodes memo a b (l, r)
        one =
            let f = branches_now.0 in
            let s = pair_below nodes store a b i j x first f.0 q f.1 in
            let s0 = s.0 in
            let s1 = s.1 in
            let s2 = s.2 in
            let k : place_of l ≡ place_of q.0 = ap place_of l_is in
            let n : place_of r ≡ place_of q.1 = ap place_of r_is in
            record {
              pair = record {
                left_held = omega arith;
                right_held = omega arith;
                left = subst (IsSubtree markers nodes a) (sym l_is) s.3;
                right = subst (IsSubtree markers nodes b) (sym r_is) s.4;
              };
              below = omega arith;
              unsettled = h;
            }

        not_above : ◌≡◌ {A = NodeId × NodeId} (l, r) (a, b) → ⊥
        not_above same =
            let below : place_of l + place_of r < place_of a + place_of b = one.below in
            let first : place_of l ≡ place_of a = ap (λ (p : NodeId × NodeId). place_of p.0) same in
            let second : place_of r ≡ place_of b = ap (λ (p : NodeId × NodeId). place_of p.1) same in
            omega arith

-- ---- whether a pair is that of two ids
pub is_same : (p : NodeId × NodeId) (a b : NodeId) (told : Bool) → told ≡ not (same_pair p (a, b)) → told ≡ false → p ≡ (a, b)
is_same p a b told e f = same_pair_is p (a, b) (not_false (same_pair p (a, b)) (sym e ∙ f))
  where
    not_false : (z : Bool) → not z ≡ false → z ≡ true
    not_false true e = refl
    not_false false e = absurd (false≢true (sym e))

pub is_other : (p : NodeId × NodeId) (a b : NodeId) (told : Bool) → told ≡ not (same_pair p (a, b)) → told ≡ true → p ≡ (a, b) → ⊥
is_other p a b told e f same = grind (arith, and_from, same_id_itself, false≢true, not)

-- a choice that has the conjunctions as its children
pub choice_joins : (nodes : List Node) (a b : NodeId) (x : Variable) (child : Valuation → NodeId) (choice : Choice) → IsFirst nodes x a b → ((v : Valuation) → IsAnd nodes (branch nodes x a v) (branch nodes x b v) (child v)) →
    asked choice ≡ x → ((v : Valuation) → chosen choice v ≡ child v) → Joins nodes a b choice
choice_joins nodes a b x branches choice first ands x_is branches_are = grind arith

-- ---- what is spent
pub spends_nothing : (c : Contents) (nodes : List Node) (size : ℕ) (a b : NodeId) → Spends c record { nodes = nodes; memo = c.memo; expansions = c.expansions } size a b
spends_nothing c nodes size a b = record { above = λ k h. refl; spent = λ pairs h. omega arith; rises = omega arith }

-- a subtree is no higher
subtree_lower : (nodes : List Node) → Descends markers nodes → (t s : NodeId) → IsSubtree markers nodes t s → place_of s ≤ place_of t
subtree_lower nodes d t _ itself = omega arith
subtree_lower nodes d t s (child r _ n v h e f) = grind (arith, subtree_lower nodes d t r h)

-- a conjunction is entered
module _ (old new : Memo) (a b t : NodeId) (u : (q : NodeId × NodeId) → lookup (same_pair q) new ≡ cond (same_pair (a, b) q) (Some t) (lookup (same_pair q) old)) where
  itself_same : same_pair (a, b) (a, b) ≡ true
  itself_same = and_from (same_id a a) (same_id b b) (same_id_itself a) (same_id_itself b)

  pub entered : IsKnown new (a, b)
  entered = ap is_some (u (a, b) ∙ ap (λ z. cond z (Some t) (lookup (same_pair (a, b)) old)) itself_same)

  stays : (z : Bool) (o : Option NodeId) → is_some o ≡ true → is_some (cond z (Some t) o) ≡ true
  stays true o g = refl
  stays false o g = g

  pub remembered : Remembers old new
  remembered k h = ap is_some (u k) ∙ stays (same_pair (a, b) k) (lookup (same_pair k) old) h

-- ---- fewer pairs are open
pub all_ids : ℕ → List NodeId
all_ids zero = record { place = 0; complement = false } ∷ record { place = 0; complement = true } ∷ []
all_ids (suc n) = record { place = suc n; complement = false } ∷ record { place = suc n; complement = true } ∷ all_ids n

id_here : (n : ℕ) (rest : List NodeId) (t : NodeId) (b : Bool) → is_negated t ≡ b → place_of t ≡ n → list_any (same_id t) (record { place = n; complement = false } ∷ record { place = n; complement = true } ∷ rest) ≡ true
id_here n rest t false e f = let d : NodeId = record { place = n; complement = false } in or_left (same_id t d) _ (ap (λ (x : NodeId). same_id x d) (one_id t d f e) ∙ same_id_itself d)
id_here n rest t true e f = grind (arith, or_right, or_left, one_id, same_id_itself)

id_in : (n : ℕ) (t : NodeId) → (place_of t ≤ n → list_any (same_id t) (all_ids n) ≡ true) → place_of t ≤ suc n → (z : Bool) → (place_of t == suc n) ≡ z → list_any (same_id t) (all_ids (suc n)) ≡ true
unfolding all_ids
id_in n t rest h true e = id_here (suc n) (all_ids n) t (is_negated t) refl (eqb-true (place_of t) (suc n) e)
id_in n t rest h false e =
    let k : place_of t ≡ suc n → ⊥ = eqb-false (place_of t) (suc n) e in
    or_right (same_id t record { place = suc n; complement = false }) _ (or_right (same_id t record { place = suc n; complement = true }) _ (rest (omega arith)))

id_listed : (n : ℕ) (t : NodeId) → place_of t ≤ n → list_any (same_id t) (all_ids n) ≡ true
unfolding all_ids
id_listed zero t h = id_here 0 [] t (is_negated t) refl (omega arith)
id_listed (suc n) t h = id_in n t (id_listed n t) h (place_of t == suc n) refl

-- how many pairs of ids in the list are not known
pub open_pairs : List Node → Memo → ℕ
open_pairs nodes memo = unknown (all_pairs (all_ids (length nodes)) (all_ids (length nodes))) memo

pub fewer_open : (nodes : List Node) (old new : Memo) (p : NodeId × NodeId) → IsHeld nodes p.0 → IsHeld nodes p.1 → Remembers old new → IsOpen old p → IsKnown new p → open_pairs nodes new < open_pairs nodes old
unfolding open_pairs
fewer_open nodes old new p i j r h g =
    let f = fewer_by old new p (all_pairs (all_ids (length nodes)) (all_ids (length nodes))) r (ap is_some (open_none old p h)) g
    (pairs_have p.0 p.1 (all_ids (length nodes)) (all_ids (length nodes)) (id_listed (length nodes) p.0 i) (id_listed (length nodes) p.1 j)) in
    omega arith

-- ---- one step of many
module _ (c d : Contents) (k : IsKept c d) (w : IsWellKept c) (a b : NodeId) (p : NodeId × NodeId) (h : IsPair c.nodes a b p) where
  descends : Descends markers c.nodes
  descends = descends_of c w

  pub held_left : IsHeld d.nodes p.0
  held_left = held_kept c.nodes d.nodes p.0 k.nodes h.left_held

  pub held_right : IsHeld d.nodes p.1
  held_right = held_kept c.nodes d.nodes p.1 k.nodes h.right_held

  smaller : place_of p.0 ≤ place_of a → place_of p.1 ≤ place_of b → place_of p.0 + place_of p.1 + 1 ≤ place_of a + place_of b + 1
  smaller l r = omega arith

  pub step_spends : (e : Contents) → Spends c d (place_of a + place_of b + 1) a b → Spends d e (place_of p.0 + place_of p.1 + 1) p.0 p.1 → Spends c e (place_of a + place_of b + 1) a b
  step_spends e s t =
      spends_both c d e (place_of a + place_of b + 1) (place_of p.0 + place_of p.1 + 1) a b p.0 p.1 k descends h.left_held h.right_held h.left h.right
      (smaller (subtree_lower c.nodes descends a p.0 h.left) (subtree_lower c.nodes descends b p.1 h.right)) s t

  pub below_pair : (q : NodeId × NodeId) → IsPair d.nodes p.0 p.1 q → IsPair c.nodes a b q
  below_pair = pair_under c.nodes d.nodes k.nodes descends a b p h

  pub waiting_pairs : (old new : List (NodeId × NodeId)) → ArePairs c.nodes a b old → Waits d.nodes p.0 p.1 old new → ArePairs c.nodes a b new
  waiting_pairs old new pairs s = subst (ArePairs c.nodes a b) (sym s.added) (pairs_both c.nodes a b old s.more pairs (pairs_under c.nodes d.nodes k.nodes descends a b p h s.more s.pairs))

-- ---- what is looked up
pub looked_up : (memo : Memo) (expansions : ℕ) (a b : NodeId) (o : Option NodeId) → o ≡ lookup (same_pair (a, b)) memo →
    IfSome o (λ t. (nodes : List Node) → IsWellKept record { nodes = nodes; memo = memo; expansions = expansions } → IsHeld nodes a → IsHeld nodes b → IsAnd nodes a b t)
looked_up memo expansions a b None e = _
looked_up memo expansions a b (Some t) e = λ nodes w i j. known_is record { nodes = nodes; memo = memo; expansions = expansions } a b t w e

pub found_settled : (memo : Memo) (a b : NodeId) (o : Option NodeId) → o ≡ lookup (same_pair (a, b)) memo → IfSome o (λ t. IsSettled memo (a, b))
found_settled memo a b None e = _
found_settled memo a b (Some t) e = known_by memo (a, b) t e

pub missing_open : (memo : Memo) (a b : NodeId) (o : Option NodeId) → o ≡ lookup (same_pair (a, b)) memo → ¬ IsShort a b → (0 < place_of a) × (0 < place_of b) → IfNone o (IsOpen memo (a, b))
missing_open memo a b None e long nodes = opened memo a b long e nodes
missing_open memo a b (Some t) e long nodes = _

-- ---- one round: down to a pair that waits for nothing, whose conjunction is then computed
module _ (c d e : Contents) (k : IsKept c d) (w : IsWellKept c) (a b : NodeId) (next p : NodeId × NodeId) (h : IsPair c.nodes a b next) (g : IsPair d.nodes next.0 next.1 p) where
  lowest : IsPair c.nodes a b p
  lowest = below_pair c d k w a b next h p g

  pub round_spends : Spends c d (place_of a + place_of b + 1) a b → Spends d e (place_of p.0 + place_of p.1 + 1) p.0 p.1 → Spends c e (place_of a + place_of b + 1) a b
  round_spends = step_spends c d k w a b p lowest e

  pub round_fewer : Remembers d.memo e.memo → IsOpen d.memo p → IsKnown e.memo p → open_pairs c.nodes e.memo < open_pairs c.nodes d.memo
  round_fewer = fewer_open c.nodes d.memo e.memo p lowest.left_held lowest.right_held
